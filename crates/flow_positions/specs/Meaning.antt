-- THE MEANING. Read it next to request S-3
pub mod Positions
