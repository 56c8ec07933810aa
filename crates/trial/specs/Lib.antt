pub mod Turns
pub mod Lives
