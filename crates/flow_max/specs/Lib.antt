-- Augmenting paths until none is left, and the answer then
pub mod Meaning
pub mod Steps
