-- THE MEANING. Read it next to requests S-3 and S-13
pub mod Intuitive
pub mod SmallScratch
pub mod Answers
