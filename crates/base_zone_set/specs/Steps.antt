-- STEPS of the proofs
pub mod Zones
pub mod Pairs
