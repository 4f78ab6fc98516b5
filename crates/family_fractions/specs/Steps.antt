-- STEPS of the proofs
pub mod Fraction
