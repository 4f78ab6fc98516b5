-- WHAT CONTRACTS CITE of the promises; the theorems stand in proofs/
-- the report's bytes, without a family list and with one
pub mod PlainReport
