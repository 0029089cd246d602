pub mod Reports
pub mod Text
pub mod Cleared
pub mod Answering
pub mod Searching
pub mod Laws
