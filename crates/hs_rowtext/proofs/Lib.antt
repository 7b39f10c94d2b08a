pub mod NumberLemmas
pub mod RowLemmas
pub mod LengthLemmas
pub mod Printed
pub mod LineLemmas
