pub mod NoteLaws
pub mod Notes
pub mod Refused
