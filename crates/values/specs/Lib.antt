pub mod Decimals
pub mod Messages
pub mod Mistakes
pub mod Runs
