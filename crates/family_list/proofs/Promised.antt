-- THE THEOREMS ON THE ROWS OF A FAMILY LIST, for their reader
pub mod Circle
pub mod FamilyList
pub mod PlainCircles
