pub mod Accepting
mod Listed
pub mod Moving
mod RefusedLaws
mod Texts
