pub mod Zeros
pub mod Placings
pub mod Leadings
