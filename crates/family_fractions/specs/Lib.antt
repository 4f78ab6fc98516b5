-- The products that row 28 compares
pub mod Steps
