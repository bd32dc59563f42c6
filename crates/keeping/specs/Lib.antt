pub mod Queues
pub mod Works
pub mod Elapsing
pub mod Progress
pub mod Ends
