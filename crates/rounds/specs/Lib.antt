pub mod Model
pub mod Promises
pub mod Views
pub mod Requests
pub mod Replays
pub mod Rules
pub mod Laws
