pub mod Bits
pub mod QuoteLemmas
pub mod EscapeLemmas
pub mod TextLemmas
pub mod Ends
pub mod NumberLemmas
pub mod Splits
pub mod ValueLemmas
