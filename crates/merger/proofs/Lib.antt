pub mod Words
pub mod Rests
pub mod Passing
pub mod Stops
pub mod Concluding
