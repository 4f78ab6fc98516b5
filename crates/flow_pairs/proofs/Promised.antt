-- WHAT HOLDS of pairs and of the network of an hour, in plain numbers
pub mod PlainPairs
pub mod Worth
