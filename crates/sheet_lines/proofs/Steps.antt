-- THE STEPS of the proofs
pub mod Split
pub mod Entries
pub mod Lines
pub mod Stands
pub mod Walks
