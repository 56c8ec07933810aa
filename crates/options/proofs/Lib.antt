pub mod Arguments
pub mod Once
