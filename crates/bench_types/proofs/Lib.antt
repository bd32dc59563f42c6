pub mod Equalities
pub mod Masks
pub mod Passes
pub mod Positions
pub mod Repeats
pub mod StepFlaws
