pub mod Entered
pub mod Dockets
pub mod Rows
pub mod Searches
pub mod Histories
pub mod Runs
pub mod Keepings
pub mod Kept
