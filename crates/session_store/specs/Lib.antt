pub mod Kept
pub mod Opening
pub mod Outcomes
pub mod Recorded
pub mod Replays
pub mod Sums
pub mod Trials
