pub mod Rows
pub mod Items
pub mod Places
pub mod Walk
pub mod Asked
pub mod Works
