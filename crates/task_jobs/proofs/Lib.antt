pub mod Crowded
pub mod Histograms
pub mod Lists
pub mod Things
pub mod Tiles
pub mod Worked
