-- THE MEANING. Read it next to request S-3
pub mod Pairs
pub mod Table
