-- What reading a proposal answers, and what holds of a proposal and of an hour that were read.
pub mod Meaning
pub mod Steps
