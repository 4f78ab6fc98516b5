-- Read and believe `Meaning`. `Promised`, in proofs/, has the theorems for its reader, about it and about the
-- definitions in `rules`. All else is proved too.
pub mod Meaning
pub mod Steps
