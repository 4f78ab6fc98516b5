-- What the judgement answers, what a stage answers, and the way from the table to the entries' clauses
pub mod Meaning
pub mod Steps
