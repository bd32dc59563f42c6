pub mod Raises
mod Rows
pub mod Waits
