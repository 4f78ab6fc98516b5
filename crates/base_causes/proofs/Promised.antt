-- WHAT HOLDS of every such table: the answer is the first row that fails, and no other cause gives one
pub mod Asked
pub mod CauseLaws
pub mod InFileOrder
