pub mod Parts
pub mod Standing
pub mod Settled
pub mod Judged
