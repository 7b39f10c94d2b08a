pub mod Finding
pub mod Quotes
pub mod Texts
pub mod Types
pub mod Values
