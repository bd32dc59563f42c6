pub mod Documents
pub mod Edits
pub mod Heads
pub mod Interrupts
pub mod Items
pub mod Places
pub mod ShapesView
pub mod Workloads
