-- THE MEANING of a decimal number as text
pub mod Numeral
pub mod Pieces
pub mod Scan
