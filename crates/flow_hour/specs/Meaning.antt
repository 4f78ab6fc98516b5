-- The question for an hour
pub mod Hour
