pub mod Groups
pub mod Keyed
pub mod Lines
pub mod Picking
pub mod Places
