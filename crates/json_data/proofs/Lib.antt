pub mod Arrays
mod Digits
pub mod Documents
pub mod Gathering
pub mod Least
pub mod Members
pub mod Objects
pub mod Values
pub mod Ranges
pub mod Twice
