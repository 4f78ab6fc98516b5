-- A LOAD AT A PRICE
pub mod Cost
