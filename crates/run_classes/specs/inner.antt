pub mod Classes
