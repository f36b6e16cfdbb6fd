pub mod Listing
pub mod AllPages
pub mod ByHand
pub mod Characters
pub mod Bytes
