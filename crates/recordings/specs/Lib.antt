pub mod RecordingView
pub mod Kept
