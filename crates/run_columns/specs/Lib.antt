pub mod SlotColumns
pub mod TimeSlots
