pub mod Building
pub mod Marks
pub mod Parsed
pub mod Sentences
