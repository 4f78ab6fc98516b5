-- Prices by zone
pub mod Steps
