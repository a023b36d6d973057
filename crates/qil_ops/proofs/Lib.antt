-- The lemmas of this crate.
pub mod WholeNumbers
pub mod Shifts
