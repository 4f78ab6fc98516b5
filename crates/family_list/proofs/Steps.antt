-- THE STEPS of the proofs
pub mod Pigeonhole
pub mod Ancestors
pub mod Round
pub mod Walk
pub mod Parents
pub mod Answer
