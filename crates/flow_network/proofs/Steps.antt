-- Steps of proofs.
pub mod Saturated
