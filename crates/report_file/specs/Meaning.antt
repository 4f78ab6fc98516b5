-- THE MEANING of what the contracts cite
pub mod Written
pub mod Prices
