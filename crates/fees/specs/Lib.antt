pub mod Fees
pub mod Charges
