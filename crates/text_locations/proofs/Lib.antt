pub mod Counts
pub mod Paths
pub mod Scanning
pub mod Walks
