pub mod Bytes
pub mod Decoding
pub mod RegisterLaws
pub mod LedgerLaws
pub mod MemoryLaws
pub mod Soundness
