pub mod inner
pub mod Representatives
