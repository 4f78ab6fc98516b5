-- WHAT HOLDS of it: the order of its causes, and what the request promises of every run
pub mod Causes
pub mod Served
pub mod Least
