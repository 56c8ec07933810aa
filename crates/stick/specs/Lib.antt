pub mod Meaning
pub mod Outcomes
pub mod Completions
