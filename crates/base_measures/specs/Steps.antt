-- WHAT A CONSTRUCTOR ANSWERS, by the limits
pub mod Held
-- THE ORDER that a measure derives
pub mod Derived
