pub mod Runs
pub mod Lives
