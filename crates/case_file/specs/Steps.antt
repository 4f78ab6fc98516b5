-- STEPS of the proofs
pub mod Answer
pub mod Files
