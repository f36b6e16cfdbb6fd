pub mod Windows
pub mod Sizes
pub mod Plan
