pub mod Stretches
pub mod CoreActions
pub mod Seats
pub mod Closing
pub mod Making
