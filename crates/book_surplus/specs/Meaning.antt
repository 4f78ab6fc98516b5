-- THE MEANING: the answer of a lent book
pub mod Lent
pub mod BookState
