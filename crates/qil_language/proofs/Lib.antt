-- The lemmas of this crate.
pub mod Law
pub mod Marks
pub mod Loop
