pub mod Letters
pub mod Sayings
