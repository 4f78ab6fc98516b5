-- THE MEANING of what the contracts cite
pub mod Difference
pub mod Order
pub mod Ranges
pub mod Sums
pub mod NaturalSums
pub mod Bytes
pub mod Machine
