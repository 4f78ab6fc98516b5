-- A set of zones and what it holds, and the pairs of zones seen as such sets
pub mod Meaning
pub mod Steps
