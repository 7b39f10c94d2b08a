pub mod Changed
pub mod Parts
pub mod Turning
pub mod Committing
