pub mod Counted
pub mod Given
pub mod Lawful
pub mod Same
