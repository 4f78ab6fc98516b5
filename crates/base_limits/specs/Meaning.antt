-- THE MEANING: document 01's limits, and money to hundred-thousandths of a microcent
pub mod Limits
pub mod Exact
