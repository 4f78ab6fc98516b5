-- WHAT HOLDS of it, in plain numbers
pub mod PlainPositions
