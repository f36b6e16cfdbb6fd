pub mod LineNumbers
pub mod Prefixes
pub mod Reading
