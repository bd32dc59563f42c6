pub mod Counted
pub mod Finds
mod NotesKnown
pub mod Places
pub mod Progress
pub mod Ways
