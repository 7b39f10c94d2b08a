pub mod Speaking
pub mod Outcomes
pub mod Defined
pub mod Standing
pub mod Worlds
pub mod Engines
pub mod Runs
