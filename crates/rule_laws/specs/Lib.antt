pub mod CoresLaws
pub mod MutexLaws
pub mod NoteLaws
pub mod QueueLaws
pub mod SeekLaws
pub mod SetLaws
pub mod SuspendLaws
