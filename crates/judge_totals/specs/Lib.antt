-- The rent while the prices are asked
pub mod Meaning
