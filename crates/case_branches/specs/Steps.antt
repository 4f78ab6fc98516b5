-- STEPS of the proofs
pub mod Branch
pub mod Table
