pub mod Listed
pub mod Looked
pub mod Rows
pub mod Seated
pub mod Steps
