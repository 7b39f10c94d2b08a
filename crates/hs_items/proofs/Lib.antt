pub mod Recognised
pub mod OfStatements
