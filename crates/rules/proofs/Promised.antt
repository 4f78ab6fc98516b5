-- WHAT HOLDS of the meaning, for every case, proposal and buffer
-- the demands
pub mod Guarantee
pub mod Reported
pub mod Fits
pub mod Gap
-- the verdict table: its order, its causes, its fields
pub mod Causes
pub mod PlainLayout
pub mod PlainFacts
pub mod PlainVerdicts
pub mod PlainBook
pub mod Units
pub mod RefusedField
pub mod FieldByField
pub mod IndexChange
-- S-4: contracted volumes, and the two case versions
pub mod Contracted
pub mod Versions
-- S-6: hours without links
pub mod NoLinks
-- S-11: what a family list changes
pub mod Families
pub mod PlainFamilies
-- the report's bytes, without a family list and with one
pub mod PlainReport
-- the desk's text: where its input is cut, and every line
pub mod PlainCut
pub mod PlainLines
-- what is promised, spelt out
pub mod PlainPromise
-- S-12: wide tolerances
pub mod Tolerance
-- in the terms of Annex 14.29
pub mod Annex
