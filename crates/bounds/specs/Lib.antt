pub mod Blocks
pub mod Multipliers
pub mod Rules
pub mod Live
pub mod Laws
