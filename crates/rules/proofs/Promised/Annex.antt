-- WHAT HOLDS IN THE ANNEX'S TERMS: the same clearings, prices and rent by its equations
pub mod CommercialFlows
pub mod Extended
pub mod Unconnected
pub mod Combinations
pub mod AnnexPrices
pub mod AnnexHour
