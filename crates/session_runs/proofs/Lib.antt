pub mod Goes
mod Rows
