pub mod Depth
pub mod Lawful
pub mod Places
