pub mod Blocks
pub mod Flaws
pub mod Sound
pub mod Walks
