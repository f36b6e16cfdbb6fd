pub mod Append
pub mod Cuts
