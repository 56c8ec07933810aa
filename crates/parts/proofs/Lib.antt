pub mod Ends
pub mod Filled
