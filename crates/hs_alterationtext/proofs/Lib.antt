pub mod AlterationLemmas
pub mod AlterLemmas
