-- STEPS of the proofs
pub mod Listing
pub mod Search
pub mod Labelling
pub mod Arcs
pub mod SearchAnswer
