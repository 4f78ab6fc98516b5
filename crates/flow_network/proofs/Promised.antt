-- The theorems about it.
pub mod Duality
pub mod Worth
pub mod PlainFlows
