-- What holds of an hour's answer, with either scratch, and of its rent; both in plain numbers
pub mod Asked
pub mod BothSizes
pub mod Rent
pub mod PlainHour
pub mod PlainRent
