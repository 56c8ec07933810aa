pub mod Going
pub mod Loading
pub mod Keeping
pub mod Failing
