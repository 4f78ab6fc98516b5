-- THE STEPS of the proofs: what the contracts of inner functions cite
pub mod Round
pub mod Walk
pub mod Parents
