pub mod Changes
pub mod Changed
pub mod Verdicts
pub mod Ranking
pub mod ChangeLaws
pub mod Tellings
