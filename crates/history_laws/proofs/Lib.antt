pub mod HoldsAlong
pub mod KeptOut
pub mod Legal
pub mod OwnHolds
pub mod Parts
pub mod Room
pub mod Recorded
