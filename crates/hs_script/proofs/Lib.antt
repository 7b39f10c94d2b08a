pub mod HeadLemmas
pub mod NumberedLemmas
pub mod DefinitionLemmas
pub mod PrintedLemmas
pub mod RowLemmas
