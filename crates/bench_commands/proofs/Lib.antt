mod CommandLine
mod CommandLines
mod EditsMade
mod EditLines
mod Labelled
mod Opened
mod Recordings
pub mod RefusedTexts
mod Replays
mod TrialLines
mod Requests
mod Statuses
