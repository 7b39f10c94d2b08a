pub mod Called
pub mod Controls
pub mod Sights
