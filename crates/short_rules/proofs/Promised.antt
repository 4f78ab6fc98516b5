-- WHAT IS PROMISED AND PROVED: for every accepted hour, for contracted volumes, for an answer, in the Annex's
-- terms, and in plain numbers
pub mod Account
pub mod Contracted
pub mod Answer
pub mod Causes
pub mod Annex
pub mod PlainShortfalls
