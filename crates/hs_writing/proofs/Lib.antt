pub mod Places
pub mod Shorter
