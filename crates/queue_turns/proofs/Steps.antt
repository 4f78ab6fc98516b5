-- THE STEPS of the proofs
pub mod Invariant
pub mod Fairness
pub mod Account
