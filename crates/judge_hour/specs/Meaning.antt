-- What the judgement answers, and how the entries pack it
pub mod HourJudged
pub mod Packed
