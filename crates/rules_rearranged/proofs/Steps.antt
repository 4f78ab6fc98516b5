-- THE STEPS of the proofs: no reader needs to believe or read them
pub mod PermutedSums
pub mod ReorderedBytes
pub mod MovedOrders
pub mod RearrangedFile
pub mod SameRows
pub mod Selection
