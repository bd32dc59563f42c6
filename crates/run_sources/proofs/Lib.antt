pub mod CheckedSources
mod TrueFaults
pub mod SourceRuns
