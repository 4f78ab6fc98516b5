-- WHAT HOLDS OF IT: every byte of the output
pub mod PlainOutput
