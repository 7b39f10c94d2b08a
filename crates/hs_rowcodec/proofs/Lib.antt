pub mod Appends
pub mod Columns
pub mod Fields
pub mod Numbers
pub mod Rows
pub mod Texts
pub mod Values
pub mod Widths
