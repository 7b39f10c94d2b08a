pub mod Trees
pub mod Checked
pub mod Meant
pub mod Texts
