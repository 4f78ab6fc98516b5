-- THE STEPS of the proofs
pub mod Entries
pub mod Lines
