pub mod Windows
pub mod Satisfying
pub mod Planning
pub mod FixedRows
pub mod Testing
