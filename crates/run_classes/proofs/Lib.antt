pub mod Beginning
pub mod Both
