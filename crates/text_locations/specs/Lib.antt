pub mod Leads
pub mod Parts
pub mod Path
pub mod Location
pub mod Starts
pub mod Quoted
pub mod Walk
