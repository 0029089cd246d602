pub mod Cleared
pub mod Digits
pub mod Joins
pub mod Supplies
