mod Accepting
mod Details
pub mod Documents
mod Known
mod Lists
mod Loops
mod NearWords
mod NewNames
mod Scripts
mod StepWords
