pub mod Joining
pub mod Relinking
pub mod Taking
pub mod Together
pub mod WholeRuns
pub mod TiesByRuns
