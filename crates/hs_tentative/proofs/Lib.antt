pub mod NewRows
