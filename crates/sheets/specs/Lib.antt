pub mod Fields
pub mod Views
pub mod Reading
pub mod Writing
pub mod Laws
