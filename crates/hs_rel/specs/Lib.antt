pub mod Asking
pub mod Bags
pub mod Gathering
pub mod Groups
pub mod Join
pub mod Outcome
pub mod Selection
