pub mod Prefixes
pub mod Jobs
