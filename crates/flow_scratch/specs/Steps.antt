-- STEPS of the proofs
pub mod Scratch
pub mod Cleared
