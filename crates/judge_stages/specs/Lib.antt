-- What the driver finds, what a stage knows of the hour, and what it asks of a family list
pub mod Meaning
pub mod Steps
