-- THE MEANING. Read it next to request S-13
pub mod Places
pub mod Cleared
