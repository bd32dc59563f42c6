pub mod AlikeLaws
pub mod EditLaws
pub mod TallyLaws
