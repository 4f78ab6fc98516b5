-- THE MEANING of the answers to a header
pub mod Answer
pub mod CaseReadable
