-- The lemmas of this crate.
pub mod Depth
pub mod Backing
