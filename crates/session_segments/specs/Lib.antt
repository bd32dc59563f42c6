pub mod Replaying
pub mod Counting
pub mod Kept
pub mod Meetings
