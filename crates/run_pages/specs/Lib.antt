pub mod Marks
pub mod Page
pub mod Shown
