pub mod Taking
pub mod Forms
pub mod Passing
pub mod Asked
