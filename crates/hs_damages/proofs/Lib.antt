pub mod Heads
pub mod Taking
pub mod Sighted
pub mod Standing
