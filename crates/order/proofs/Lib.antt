pub mod Positions
pub mod Recordings
pub mod Rearranged
pub mod OrderAndSides
pub mod OtherCalls
pub mod SidesAlone
pub mod NeverPairs
pub mod Prints
