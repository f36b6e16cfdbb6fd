pub mod Prefix
pub mod State
pub mod Call
pub mod Claims
pub mod Course
pub mod CaseFive
pub mod Refusals
pub mod Preview
