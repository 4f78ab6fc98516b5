-- One shortfall: the form that all three share, and what an accepted hour provides for it
pub mod Meaning
pub mod Steps
