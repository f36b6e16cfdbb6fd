pub mod Going
pub mod Marking
pub mod Lining
