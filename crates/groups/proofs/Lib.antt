pub mod Masks
pub mod Rows
pub mod Keys
pub mod Groups
pub mod Counting
pub mod Alike
