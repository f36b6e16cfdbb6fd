pub mod Shortened
pub mod Revised
pub mod Copies
