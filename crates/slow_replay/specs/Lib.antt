pub mod SlowDue
pub mod SlowSeek
pub mod SlowTable
