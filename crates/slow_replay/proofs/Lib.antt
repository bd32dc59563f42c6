pub mod SlowRuns
pub mod SlowSlices
pub mod SlowTicks
pub mod SlowWaiters
