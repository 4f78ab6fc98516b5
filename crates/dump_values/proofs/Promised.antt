-- THE THEOREMS ON THE MEANING, for its reader
pub mod Taken
pub mod PlainPlaces
pub mod PlainFaults
