pub mod Backs
pub mod Blanks
pub mod Cuts
pub mod Pairs
mod Texts
