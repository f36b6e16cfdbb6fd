pub mod Slicing
pub mod Stopped
