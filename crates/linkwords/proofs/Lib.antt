pub mod RowsHeld
pub mod Calls
