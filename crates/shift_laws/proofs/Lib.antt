pub mod LaterTables
pub mod PairsShifted
pub mod Renamings
pub mod Runs
pub mod ShiftTests
pub mod Steps
pub mod Turns
