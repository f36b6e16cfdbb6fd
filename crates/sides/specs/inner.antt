pub mod Reading
pub mod Sides
