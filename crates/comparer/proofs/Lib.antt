pub mod Variables
pub mod Comparing
pub mod Stops
