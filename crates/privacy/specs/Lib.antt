pub mod Claims
pub mod Causes
pub mod Whole
pub mod Instances
