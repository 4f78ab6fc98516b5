-- THE STEPS of the proofs
pub mod Parts
pub mod Pairs
