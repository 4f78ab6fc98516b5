-- `rules` and `text_rules` say what the lines are; the steps are for the proofs.
pub mod Steps
