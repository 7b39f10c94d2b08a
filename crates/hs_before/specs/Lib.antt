pub mod Family
pub mod Held
