pub mod inner
pub mod Steps
