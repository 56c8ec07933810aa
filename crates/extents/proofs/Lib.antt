pub mod Along
pub mod Search
