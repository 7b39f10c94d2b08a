pub mod Either
pub mod Indexed
pub mod Kept
pub mod Resources
