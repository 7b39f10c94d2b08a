pub mod DayLemmas
pub mod FractionLemmas
pub mod KnownFacts
pub mod MoveLemmas
pub mod ReadingLemmas
pub mod StampLemmas
pub mod TextLemmas
pub mod YearLemmas
