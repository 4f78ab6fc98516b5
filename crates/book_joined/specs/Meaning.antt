-- THE MEANING: good rows and good prices
pub mod GoodBook
