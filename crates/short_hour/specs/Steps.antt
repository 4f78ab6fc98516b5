-- STEPS of the proofs
pub mod Pairs
pub mod Kept
