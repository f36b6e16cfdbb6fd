pub mod Form
pub mod Call
pub mod Proper
pub mod Markers
