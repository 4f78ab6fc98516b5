-- THE THEOREMS ON THE MEANING, for its reader
pub mod Causes
pub mod PlainCauses
pub mod ReadBack
pub mod PlainBytes
pub mod Answered
