-- The lemmas of this crate.
pub mod Numbers
pub mod Fields
pub mod Told
pub mod Ranks
pub mod Gathered
