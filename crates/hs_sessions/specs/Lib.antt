pub mod Book
pub mod Modes
pub mod Savepoints
pub mod Settings
