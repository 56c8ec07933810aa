pub mod Standings
pub mod Told
