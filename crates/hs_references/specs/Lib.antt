pub mod Collected
pub mod Referenced
