-- STEPS of the proofs
pub mod Found
pub mod Facts
pub mod Listed
