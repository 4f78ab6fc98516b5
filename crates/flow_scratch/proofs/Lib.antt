-- Proofs: the steps that no contract cites.
pub mod Steps
