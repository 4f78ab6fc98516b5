-- STEPS of the proofs
pub mod Order
