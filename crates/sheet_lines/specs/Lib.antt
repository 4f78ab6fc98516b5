-- Read and believe `Meaning`. All else is proved of it.
pub mod Meaning
pub mod Promised
pub mod Steps
