-- STEPS of the proofs
pub mod Written
