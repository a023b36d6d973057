-- The lemmas of this crate.
pub mod Lines
pub mod ReachedLemmas
