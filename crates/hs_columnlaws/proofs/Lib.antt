pub mod CleanValues
pub mod CleanColumns
