-- WHAT HOLDS OF IT: which texts are numbers, that a value is exact, and that a printed amount reads back
pub mod Spelled
pub mod Exact
pub mod Printed
pub mod Finer
pub mod PlainNumbers
