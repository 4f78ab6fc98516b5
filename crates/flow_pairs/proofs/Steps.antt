-- THE STEPS of the proofs
pub mod Tests
pub mod Table
