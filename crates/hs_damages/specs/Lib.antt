pub mod Damages
pub mod Meaning
pub mod Reading
pub mod Sighting
pub mod Stops
