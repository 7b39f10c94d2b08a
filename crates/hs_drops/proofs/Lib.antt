pub mod Answering
pub mod NamedTables
