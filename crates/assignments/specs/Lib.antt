pub mod Form
pub mod Call
pub mod Matching
pub mod Made
pub mod Homes
