-- STEPS of the proofs
pub mod Answer
pub mod ProposalValid
pub mod Read
