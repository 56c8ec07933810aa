pub mod Pairs
pub mod Sums
pub mod Fitted
