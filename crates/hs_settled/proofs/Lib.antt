pub mod AtSpots
pub mod Clauses
pub mod Growing
pub mod Outcomes
pub mod Widening
