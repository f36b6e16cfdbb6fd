pub mod Work
pub mod Tables
