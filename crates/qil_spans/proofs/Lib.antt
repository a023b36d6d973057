-- The lemmas of this crate.
pub mod Depths
pub mod Begins
pub mod Functions
pub mod Keeping
