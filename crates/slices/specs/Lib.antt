pub mod Borders
pub mod Along
pub mod Cut
