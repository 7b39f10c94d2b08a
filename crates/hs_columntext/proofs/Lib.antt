pub mod ListLemmas
pub mod TypeLemmas
pub mod ColumnLemmas
