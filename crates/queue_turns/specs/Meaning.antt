-- THE MEANING. Read it next to request S-8
pub mod Queue
pub mod Runs
