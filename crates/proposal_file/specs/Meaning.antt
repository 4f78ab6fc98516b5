-- THE MEANING of the answers to a proposal, and of what was read of an hour
pub mod Answer
pub mod ProposalValid
pub mod InRange
pub mod Read
