-- THE MEANING. Read it next to request S-9, in this order
pub mod Permutation
pub mod Rearranged
pub mod Sorted
