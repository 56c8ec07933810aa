pub mod Hexadecimal
pub mod Laws
pub mod Messages
pub mod Readings
pub mod Words
