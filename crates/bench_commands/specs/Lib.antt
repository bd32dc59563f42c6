pub mod Answer
pub mod Command
pub mod CommandLines
pub mod Lines
pub mod Program
pub mod Record
pub mod Run
pub mod TrialLaws
