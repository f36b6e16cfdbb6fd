pub mod Filling
pub mod Settling
pub mod FromCopy
