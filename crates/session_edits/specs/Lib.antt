pub mod Edited
pub mod Notes
pub mod Origins
pub mod Refused
