-- THE MEANING of the answers to a case
pub mod Answer
pub mod Files
