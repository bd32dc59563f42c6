pub mod Seats
pub mod CoreActions
pub mod Stretches
pub mod Resting
pub mod Rigs
pub mod Closing
