-- THE MEANING. Read it next to request S-10
pub mod Columns
pub mod Answer
