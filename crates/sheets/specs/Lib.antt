pub mod Text
pub mod Sheet
pub mod Call
pub mod Print
pub mod Writing
pub mod Refused
pub mod Program
pub mod inner
