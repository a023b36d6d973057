-- The definitions.
pub mod Kept
pub mod Weights
pub mod Cloned
