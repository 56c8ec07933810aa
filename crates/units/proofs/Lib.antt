pub mod Loops
pub mod Compared
pub mod Fronts
pub mod Tables
