pub mod Carries
pub mod Secrets
pub mod Texts
