pub mod Decimals
pub mod Digits
