pub mod Expressions
pub mod Literals
pub mod Statements
pub mod Tokens
