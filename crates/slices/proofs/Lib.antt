pub mod SideBySide
pub mod Ends
pub mod Cuts
