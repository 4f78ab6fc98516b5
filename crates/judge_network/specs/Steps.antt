-- STEPS of the proofs
pub mod Prices
