pub mod Worlds
pub mod Over
pub mod Values
pub mod Writing
pub mod Replaying
pub mod Reading
pub mod Kept
pub mod KnownTexts
