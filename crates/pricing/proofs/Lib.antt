pub mod Spans
pub mod Zones
