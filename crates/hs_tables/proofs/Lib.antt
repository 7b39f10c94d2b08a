pub mod Adding
pub mod Checked
pub mod Places
