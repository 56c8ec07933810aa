pub mod Firsts
pub mod Rounds
