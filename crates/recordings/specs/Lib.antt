pub mod Recordings
pub mod Call
pub mod Compared
