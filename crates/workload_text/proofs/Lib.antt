pub mod Loops
pub mod Places
