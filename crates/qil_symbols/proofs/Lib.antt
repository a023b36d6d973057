-- The lemmas of this crate.
pub mod NumberLemmas
pub mod TableLemmas
