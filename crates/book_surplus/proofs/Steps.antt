-- STEPS of the proofs: the state that leads to the answer, row by row
pub mod Position
pub mod BookState
pub mod StateLaws
pub mod Closing
