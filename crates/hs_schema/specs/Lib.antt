pub mod Catalogue
pub mod Kept
pub mod Texts
pub mod Whole
