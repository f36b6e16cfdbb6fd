pub mod Appending
pub mod FormCases
