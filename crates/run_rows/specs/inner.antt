pub mod Wide
pub mod Lined
