pub mod Figures
pub mod Limits
pub mod NameLaws
pub mod Names
pub mod Objects
pub mod Subjects
pub mod Table
