-- THE STEPS of the proofs
pub mod Cutting
pub mod Half
pub mod Whole
pub mod WholePart
pub mod Patterns
pub mod Products
