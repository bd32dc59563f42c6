mod Cuts
mod EditReplays
mod EditShown
mod GoingOn
mod LaterSums
mod LaterTallies
mod Opened
mod Openings
pub mod SegmentsOfEdits
mod EditedSegmentProofs
mod RecordedSessions
mod Retraces
mod Spans
mod StepRows
mod StoreReads
mod StoreStates
mod StoreSums
mod StoreTallies
