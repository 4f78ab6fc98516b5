-- STEPS of the proofs
pub mod Link
pub mod Walk
