-- WHAT HOLDS OF IT: all lines have room, a long input is judged by its start, and every byte of the output
pub mod Room
pub mod Prefix
pub mod ShortOutput
pub mod PlainText
pub mod PlainOutput
pub mod Answered
