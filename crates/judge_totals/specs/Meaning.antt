-- THE MEANING of what the contracts cite
pub mod Rent
pub mod Priced
