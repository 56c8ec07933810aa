pub mod Ups
pub mod Alters
pub mod Completing
