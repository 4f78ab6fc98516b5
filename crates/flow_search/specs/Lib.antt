-- The search for an augmenting path: the order in which zones are reached, what is done for each, and both over the
-- lent lists
pub mod Meaning
pub mod Steps
