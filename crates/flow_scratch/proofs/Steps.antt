-- STEPS that a reader may cite, and no contract does
pub mod Amounts
