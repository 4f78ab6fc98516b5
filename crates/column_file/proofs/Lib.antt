-- The theorems of this crate, and the steps to them.
pub mod Steps
pub mod Promised
