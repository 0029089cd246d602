pub mod Refusals
pub mod Fields
pub mod Layouts
pub mod Tables
pub mod Registers
pub mod Memory
pub mod Marks
pub mod Laws
