pub mod Bytes
pub mod Content
pub mod Lengths
pub mod Pieces
pub mod Reading
pub mod Tokens
