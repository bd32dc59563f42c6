pub mod Segments
pub mod EditedSegments
pub mod SegmentLaws
