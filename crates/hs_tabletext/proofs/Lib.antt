pub mod Naming
pub mod TableLemmas
pub mod ColumnLemmas
pub mod CleanRules
pub mod ConstraintLemmas
pub mod PartLemmas
pub mod RuleLemmas
