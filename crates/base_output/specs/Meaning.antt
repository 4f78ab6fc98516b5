-- THE MEANING: what an entry writes into a lent output, and every byte of it afterwards
pub mod Output
