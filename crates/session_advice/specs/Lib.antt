pub mod Questions
pub mod Basis
pub mod Words
pub mod Costs
pub mod Advice
pub mod AdviceLaws
pub mod Telling
