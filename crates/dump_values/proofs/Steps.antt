-- THE STEPS of the proofs
pub mod Agree
pub mod Taken
pub mod Places
