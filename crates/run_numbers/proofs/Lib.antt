pub mod Answered
pub mod Seen
pub mod Places
pub mod Seeing
pub mod Steps
pub mod Lawful
pub mod FirstStretches
mod Known
mod Spans
mod Counting
mod Idle
mod Totals
mod Turning
mod Visits
mod Runs
pub mod Working
