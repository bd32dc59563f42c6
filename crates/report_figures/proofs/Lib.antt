pub mod Differences
mod EachName
mod Floats
pub mod Measurable
mod NameReading
mod NamesDiffer
pub mod Ranges
mod SubjectsDiffer
mod ToldNames
mod Tokens
mod Words
