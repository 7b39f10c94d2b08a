pub mod Heads
pub mod Numbered
pub mod Definitions
pub mod Rows
