pub mod Alike
pub mod EditedSessions
pub mod SameOrders
pub mod SameTests
pub mod SameWaiters
pub mod Shapes
pub mod Tallies
pub mod Traces
