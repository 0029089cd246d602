pub mod Numbers
pub mod Prices
