-- The 96 numbers of a flow in a lent scratch, and the positive and negative parts of a number in the machine
pub mod Meaning
pub mod Steps
