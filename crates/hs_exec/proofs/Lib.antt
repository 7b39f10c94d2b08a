pub mod Alike
pub mod Given
pub mod Same
pub mod Serving
pub mod Worked
