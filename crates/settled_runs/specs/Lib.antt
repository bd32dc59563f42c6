pub mod Settled
pub mod SettleLaws
pub mod Work
pub mod Runs
