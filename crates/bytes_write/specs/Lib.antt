-- STEPS: the halves of 64 bits
pub mod Steps
