pub mod AtEach
pub mod Gathered
pub mod Layers
pub mod Steps
