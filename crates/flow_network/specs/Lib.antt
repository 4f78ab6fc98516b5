-- Flows of exports to imports along counted pairs of zones. A set of zones that no counted pair leaves bounds the
-- largest total.
pub mod Meaning
pub mod Steps
