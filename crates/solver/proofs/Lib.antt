pub mod Concluding
pub mod Stops
