pub mod LongDivision
pub mod Numerals
pub mod PrintedLines
pub mod PrintedText
pub mod Raised
pub mod ReadBack
pub mod Signs
pub mod Spelling
