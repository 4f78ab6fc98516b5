-- THE STEPS of the proofs: no reader needs to believe or read them
pub mod JoinedRows
