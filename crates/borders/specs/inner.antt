pub mod Rows
pub mod Borders
