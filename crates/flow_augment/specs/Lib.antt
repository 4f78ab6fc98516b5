-- Augmenting paths: what one step changes, the labels that lead back, and both over the lent lists
pub mod Meaning
pub mod Steps
