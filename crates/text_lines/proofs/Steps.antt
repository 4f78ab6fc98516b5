-- THE STEPS of the proofs
pub mod Header
pub mod Judged
pub mod Refused
pub mod Answers
