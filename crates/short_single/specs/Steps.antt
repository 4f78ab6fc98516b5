-- STEPS of the proofs
pub mod Short
pub mod HourAccepted
