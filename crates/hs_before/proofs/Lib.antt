pub mod Grown
pub mod Read
