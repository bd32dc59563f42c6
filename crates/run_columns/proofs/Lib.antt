pub mod LinedUp
pub mod Timed
