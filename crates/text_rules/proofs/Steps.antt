-- THE STEPS of the proofs
pub mod Places
pub mod Digits
pub mod Table
pub mod Complement
pub mod Put
