-- STEPS of the proofs
pub mod Cursor
pub mod Part
pub mod Walk
pub mod Taking
pub mod Record
pub mod Walked
