pub mod Sessions
pub mod Setting
pub mod Controlling
pub mod Seeing
pub mod Committing
pub mod Waiting
pub mod Admitting
pub mod Sides
