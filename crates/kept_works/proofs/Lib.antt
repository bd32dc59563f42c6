mod Answering
mod Calls
pub mod Edited
mod FirstPlaces
mod Loops
mod Placings
mod Rowed
mod Walking
mod Whole
