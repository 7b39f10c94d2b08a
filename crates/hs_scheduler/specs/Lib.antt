pub mod Standing
pub mod Resting
pub mod Turned
pub mod Closing
