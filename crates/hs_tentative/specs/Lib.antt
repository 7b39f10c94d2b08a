pub mod NewRows
pub mod Statements
