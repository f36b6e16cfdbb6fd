pub mod Putting
pub mod Carving
pub mod Cutting
pub mod Finding
pub mod Starting
