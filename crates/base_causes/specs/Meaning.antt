-- THE MEANING of a table of causes
pub mod Causes
pub mod Place
