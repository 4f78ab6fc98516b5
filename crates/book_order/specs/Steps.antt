-- STEPS of the proofs
pub mod Admitted
