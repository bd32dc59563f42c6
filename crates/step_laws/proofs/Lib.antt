pub mod Along
pub mod Currents
pub mod Holds
pub mod Nears
pub mod StartFlags
pub mod Starts
pub mod Steps
pub mod Undisturbed
