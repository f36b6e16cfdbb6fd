pub mod Outcomes
pub mod Refusals
pub mod Preview
pub mod Solvers
