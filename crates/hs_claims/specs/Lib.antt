pub mod Blockers
pub mod Compatible
pub mod Fitting
pub mod Footprint
pub mod Held
pub mod Session
pub mod Wants
