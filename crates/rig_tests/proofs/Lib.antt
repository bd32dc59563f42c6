pub mod Seats
pub mod Usable
