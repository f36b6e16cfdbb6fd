pub mod Runs
pub mod Puts
pub mod Carves
pub mod Finds
pub mod Starts
