pub mod MarksFound
pub mod PageTexts
