pub mod Sessions
pub mod Runs
