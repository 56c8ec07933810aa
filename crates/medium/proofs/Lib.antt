pub mod Searches
pub mod Calls
pub mod Pages
pub mod Mapped
