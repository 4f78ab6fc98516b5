-- Read and believe `Meaning`. `Promised`, in proofs/, has the theorems about it; `Steps` are those of the proofs.
pub mod Meaning
pub mod Steps
