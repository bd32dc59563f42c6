pub mod Counting
pub mod Deadlines
pub mod Kernel
pub mod Raised
