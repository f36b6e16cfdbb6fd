pub mod Classes
pub mod FourNumbers
pub mod Orderly
