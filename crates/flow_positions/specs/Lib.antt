-- Read and believe `Meaning`. `Promised`, in proofs/, has the theorems about it.
pub mod Meaning
