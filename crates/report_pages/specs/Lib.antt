pub mod LoadBars
pub mod Marks
pub mod Report
pub mod ResponseBars
pub mod Told
