-- THE MEANING: numbers and fixed words as text
pub mod Ascii
pub mod Text
pub mod Put
