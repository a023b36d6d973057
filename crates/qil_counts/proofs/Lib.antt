-- The lemmas of this crate.
pub mod Laid
pub mod Meeting
pub mod Standing
pub mod Counting
