pub mod Gathering
pub mod Pairing
pub mod Parts
pub mod Widened
