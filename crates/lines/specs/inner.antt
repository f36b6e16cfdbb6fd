pub mod Push
