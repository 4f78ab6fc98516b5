-- THE STEPS of the proofs: no reader needs to believe or read them
pub mod LayoutLaws
pub mod Duality
pub mod Passed
pub mod CaseEnd
pub mod SameTables
pub mod Upgraded
