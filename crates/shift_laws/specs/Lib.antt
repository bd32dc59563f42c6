pub mod Later
pub mod ShiftLaws
pub mod Shifts
