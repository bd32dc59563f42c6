pub mod CheckpointLaws
pub mod MeetingLaws
pub mod RunLaws
