pub mod Same
pub mod Rearranged
pub mod NeverPairs
