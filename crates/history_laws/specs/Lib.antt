pub mod HoldLaws
pub mod LegalLaws
pub mod PartLaws
pub mod SoundHistories
