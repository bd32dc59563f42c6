pub mod Tokens
pub mod Written
