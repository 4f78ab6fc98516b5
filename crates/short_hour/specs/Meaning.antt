-- What the shortfalls' entry answers
pub mod HourShortfalls
