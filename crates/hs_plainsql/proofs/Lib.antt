pub mod Bytes
pub mod Catalogues
pub mod Changes
pub mod Names
pub mod Replies
pub mod Rows
pub mod Sql
pub mod Values
