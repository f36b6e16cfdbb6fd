pub mod Links
pub mod Roots
pub mod Taking
