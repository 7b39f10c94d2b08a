pub mod Days
pub mod Moves
pub mod Parts
pub mod Reading
pub mod Texts
