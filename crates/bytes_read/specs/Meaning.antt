-- THE MEANING: what a walk takes and what it answers
pub mod Field
pub mod Walk
