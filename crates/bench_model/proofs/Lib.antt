pub mod Ranks
pub mod Slots
pub mod Untils
pub mod Waits
