pub mod Futures
pub mod Laws
