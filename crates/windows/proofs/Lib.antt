pub mod WordsBits
pub mod Sixteens
pub mod Starts
pub mod Positions
pub mod Variables
pub mod Worked
