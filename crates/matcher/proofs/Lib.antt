pub mod Comparing
pub mod Ends
