-- STEPS of the proofs
pub mod Lacking
pub mod Links
pub mod Path
