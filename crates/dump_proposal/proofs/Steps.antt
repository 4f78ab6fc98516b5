-- THE STEPS of the proofs
pub mod Walks
pub mod Answers
