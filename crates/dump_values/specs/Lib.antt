-- Read and believe `Meaning`. All else is proved.
pub mod Meaning
pub mod Steps
