pub mod Notes
pub mod Places
pub mod Progress
pub mod Ways
