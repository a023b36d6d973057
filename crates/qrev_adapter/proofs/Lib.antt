-- The lemmas of this crate.
pub mod Hearing
pub mod Words
