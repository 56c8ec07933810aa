pub mod Scripts
pub mod Turns
