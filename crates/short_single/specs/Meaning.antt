-- THE MEANING of what the contracts cite
pub mod Short
pub mod HourAccepted
pub mod OfHour
