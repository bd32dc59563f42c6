pub mod Flaw
pub mod Laws
pub mod Limits
pub mod Programs
pub mod Walks
pub mod Workloads
