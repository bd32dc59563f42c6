pub mod Fields
pub mod Shape
