-- THE STEPS of the proofs
pub mod Listed
pub mod Transposed
pub mod Stored
pub mod Counts
pub mod Read
pub mod Answers
