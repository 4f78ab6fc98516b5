-- THE STEPS of the proofs
pub mod Sizes
pub mod Answers
