pub mod Alone
pub mod Changing
pub mod Sets
pub mod Steps
