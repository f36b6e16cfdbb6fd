pub mod Taking
pub mod Stops
