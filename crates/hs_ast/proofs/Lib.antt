pub mod PlaceFolds
pub mod Placing
