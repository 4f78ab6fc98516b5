-- STEPS of the proofs
pub mod Difference
pub mod Order
pub mod Ranges
pub mod Sums
pub mod NaturalSums
pub mod Size
pub mod Bytes
pub mod Machine
