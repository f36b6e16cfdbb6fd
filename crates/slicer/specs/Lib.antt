pub mod inner
pub mod Borders
