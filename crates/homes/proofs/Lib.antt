pub mod Stores
pub mod Widths
pub mod Firsts
pub mod Widening
pub mod Setting
pub mod Testing
pub mod Tables
pub mod Whole
