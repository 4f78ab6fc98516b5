-- WHAT HOLDS of it: the order of its causes; the answer is a function of the input, with either scratch; and both
-- in plain numbers
pub mod Causes
pub mod OneAnswer
pub mod BothSizes
pub mod Worth
pub mod PlainCauses
pub mod PlainAnswers
