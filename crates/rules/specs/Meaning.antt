-- THE MEANING. Read it next to document 01 as the requests amend it, in this order; read Annex and AnnexPromise
-- next to appendices A and B of Annex 14.29.
pub mod Layout
pub mod Hour
pub mod Clearing
pub mod Families
pub mod Verdict
pub mod Report
pub mod Cut
pub mod Lines
pub mod Versions
pub mod Promise
pub mod Book
pub mod Annex
pub mod AnnexPromise
