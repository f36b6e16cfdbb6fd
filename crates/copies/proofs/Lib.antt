pub mod Shortened
pub mod SamePairs
pub mod ShortTable
pub mod Shortening
pub mod Revised
pub mod Copying
