pub mod Bits
pub mod Found
