pub mod Sources
pub mod SourceLaws
