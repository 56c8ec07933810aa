pub mod Buffers
pub mod Records
pub mod Replies
