-- WHAT CONTRACTS CITE of the theorems, which stand in proofs/
pub mod PlainCauses
pub mod PlainBytes
