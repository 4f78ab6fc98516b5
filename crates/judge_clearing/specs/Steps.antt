-- STEPS of the proofs
pub mod TenthsHold
pub mod Parts
pub mod InRange
