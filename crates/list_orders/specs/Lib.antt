pub mod Listings
pub mod Scans
pub mod Search
