pub mod Asked
pub mod Conjuncts
pub mod Operators
pub mod Sure
