pub mod Inserts
pub mod Answered
pub mod Closing
pub mod Exact
pub mod Links
pub mod Lists
pub mod Named
pub mod Sets
