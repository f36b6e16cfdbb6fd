pub mod Buffer
pub mod Pushing
