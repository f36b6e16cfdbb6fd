pub mod Steps
pub mod Sweeping
pub mod Beginning
pub mod Marking
pub mod Neighbours
pub mod RowNumbers
pub mod Placing
pub mod Answering
