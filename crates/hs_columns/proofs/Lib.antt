pub mod Shorter
pub mod Unknown
