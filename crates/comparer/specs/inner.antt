pub mod Variables
pub mod Comparing
