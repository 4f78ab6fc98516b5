-- Read and believe `Meaning`. All else is proved: what is `Promised` of it, and the steps, in proofs/.
pub mod Meaning
pub mod Steps
