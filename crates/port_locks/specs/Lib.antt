pub mod Holds
pub mod Locks
pub mod Steps
pub mod Seats
pub mod Lent
pub mod Made
pub mod Closing
