-- STEPS of the proofs
pub mod Halves
