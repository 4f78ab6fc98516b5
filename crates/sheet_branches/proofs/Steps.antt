-- THE STEPS of the proofs
pub mod Rows
