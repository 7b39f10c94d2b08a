pub mod Alterations
