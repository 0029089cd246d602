pub mod Rounding
pub mod Values
pub mod Writing
pub mod Fairness
