pub mod Passed
pub mod Passing
pub mod Reading
