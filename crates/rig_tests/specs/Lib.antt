pub mod Use
