pub mod OneTable
pub mod Opened
pub mod Serving
pub mod Through
