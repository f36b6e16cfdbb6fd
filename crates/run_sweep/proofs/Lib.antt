pub mod Sweeping
pub mod Representatives
