-- STEPS of the proofs
pub mod Judged
pub mod Packed
pub mod Promises
