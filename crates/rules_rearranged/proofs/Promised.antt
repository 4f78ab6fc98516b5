-- WHAT HOLDS of the meaning, for every readable case, proposal of the right length and buffer
pub mod Places
pub mod OrderOfOrders
pub mod Sorted
pub mod PlainPlaces
