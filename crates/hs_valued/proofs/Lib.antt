pub mod Alone
pub mod InGroup
