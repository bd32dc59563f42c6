mod ClapAnswers
pub mod NumberTexts
pub mod OptionsRead
pub mod ProgramAnswers
pub mod Printed
pub mod ValuesTaken
