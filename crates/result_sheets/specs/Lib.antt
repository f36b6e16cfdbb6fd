pub mod Page
pub mod AllPages
