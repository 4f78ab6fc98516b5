-- WHAT HOLDS OF IT: the value of the digits, how long a text can be, and every byte read back
pub mod Value
pub mod Sizes
pub mod PlainAmounts
