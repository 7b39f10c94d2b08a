pub mod Evaluated
pub mod Gathering
pub mod Parts
