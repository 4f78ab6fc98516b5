-- The theorems of this crate, and the steps to them.
pub mod Promised
