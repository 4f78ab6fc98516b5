-- Totals and prices of the code, and the report as runs of stores
pub mod Meaning
pub mod Steps
