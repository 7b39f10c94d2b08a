pub mod Asking
pub mod Changed
