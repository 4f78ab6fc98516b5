-- The pairs as written, and the way from what was found to the contract
pub mod Meaning
pub mod Steps
