-- THE MEANING of the answers to a row of a book
pub mod Answer
pub mod Admitted
