pub mod Call
pub mod Comparing
