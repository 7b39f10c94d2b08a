pub mod Staged
pub mod Gates
