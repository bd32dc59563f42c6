pub mod Listed
pub mod Rings
pub mod Shape
