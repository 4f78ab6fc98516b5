-- WHAT HOLDS OF IT, in plain bytes and numbers: a sheet's lines and fields, its answer, and what is written
pub mod PlainText
pub mod PlainCauses
pub mod PlainBytes
