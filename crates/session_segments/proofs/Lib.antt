pub mod Replaying
pub mod Counts
mod Delaying
mod KeptRows
mod Places
mod Replays
mod Rows
mod Shifting
pub mod Tallied
mod Traces
pub mod Unmet
pub mod Unread
