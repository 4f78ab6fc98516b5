-- WHAT HOLDS of calls on the bytes, one after the other
pub mod Calls
pub mod Along
pub mod PlainQueue
pub mod PlainStored
