pub mod Counting
pub mod Lines
pub mod Sums
pub mod Tables
pub mod Tops
