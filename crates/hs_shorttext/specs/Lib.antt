pub mod Tables
pub mod Indexes
pub mod Settings
pub mod Plain
