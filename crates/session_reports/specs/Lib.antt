pub mod Asked
pub mod Checks
pub mod Figures
pub mod Reports
