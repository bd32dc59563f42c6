pub mod Callers
pub mod Notes
pub mod Progress
pub mod Simulated
pub mod Simulations
