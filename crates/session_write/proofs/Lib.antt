mod Limits
mod Plain
mod ReadBack
mod Rereading
mod TaskNames
mod Tokens
