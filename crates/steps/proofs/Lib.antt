pub mod Stepping
pub mod Trying
