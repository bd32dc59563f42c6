pub mod Made
pub mod Run
