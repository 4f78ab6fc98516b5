-- THE MEANING. Read it next to request S-1
pub mod Sheet
pub mod Lines
