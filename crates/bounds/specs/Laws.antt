-- Lemmas only, a file for each rule: why it is sound. No promise rests on believing a file here.
pub mod Parts
pub mod Splits
pub mod Ceiling
pub mod AllIn
pub mod Counted
pub mod OneByOne
pub mod Limits
pub mod Shares
pub mod Tangent
pub mod Joined
pub mod Names
