-- What is answered for a row, and rule 8 for an order
pub mod Meaning
pub mod Steps
