-- STEPS of the proofs
pub mod Filled
