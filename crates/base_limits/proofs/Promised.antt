-- WHAT HOLDS of the limits and the measures, for every number
pub mod Numbers
pub mod PlainExact
