-- THE STEPS of the proofs
pub mod Scan
pub mod Capped
pub mod Pieces
