-- WHAT HOLDS OF IT
pub mod Causes
pub mod Answered
pub mod ReadBack
pub mod Clauses
