mod Apart
mod Ends
mod Fields
pub mod Frees
mod Keyed
mod Looks
mod Moves
pub mod Paths
pub mod Places
pub mod Raised
mod Turns
