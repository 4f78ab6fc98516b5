-- THE MEANING: what a constructor answers, and volumes by zone
pub mod Held
pub mod TenthsHold
