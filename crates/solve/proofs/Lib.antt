pub mod Unread
pub mod Calls
