mod Found
mod NumbersOfAdvice
pub mod OneAdvice
mod Texts
