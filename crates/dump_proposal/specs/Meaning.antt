-- THE MEANING. Read it next to request S-5
pub mod Dump
