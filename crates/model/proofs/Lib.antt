pub mod Powering
pub mod Altered
pub mod Zeroed
pub mod Paired
pub mod Mapped
