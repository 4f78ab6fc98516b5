-- THE STEPS of the proofs
pub mod Scan
pub mod Capped
pub mod Pieces
pub mod Turns
pub mod Parts
pub mod Marks
