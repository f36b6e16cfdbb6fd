pub mod Patterns
pub mod Stops
pub mod Theorems
pub mod SameAnswers
pub mod OneMore
pub mod FreeBits
pub mod Including
