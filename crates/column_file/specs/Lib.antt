-- Read and believe `Meaning`. `Promised`, in proofs/, has the theorems about it for its reader. All else is proved too.
pub mod Meaning
pub mod Steps
