pub mod Bound
pub mod Forms
pub mod Plans
