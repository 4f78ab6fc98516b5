-- The lent lists, and the way from what was found to the contract
pub mod Lent
pub mod Kept
