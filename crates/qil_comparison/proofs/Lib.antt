-- The lemmas of this crate.
pub mod Values
pub mod Comparisons
pub mod Bare
pub mod Reporting
pub mod Loads
