-- WHAT HOLDS OF IT: the surplus of two books joined is the sum of theirs
pub mod Rows
pub mod Together
pub mod Sum
pub mod Joined
pub mod PlainJoined
