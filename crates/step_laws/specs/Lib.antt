pub mod HoldLaws
pub mod Laws
