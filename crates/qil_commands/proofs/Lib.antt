-- The lemmas of this crate.
pub mod WordLemmas
pub mod NumberLemmas
