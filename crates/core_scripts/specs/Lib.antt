pub mod Scripts
pub mod Parts
pub mod Played
pub mod Threads
