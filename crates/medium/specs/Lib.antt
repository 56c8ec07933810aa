pub mod Laws
pub mod Stored
pub mod Straight
pub mod PageMap
pub mod Turning
