-- THE STEPS of the proofs
pub mod ReadBack
pub mod Cells
pub mod Walks
pub mod Answers
