-- THE THEOREMS ON THE MEANING, for its reader
pub mod Machine
pub mod PlainBits
pub mod Within
pub mod Taken
