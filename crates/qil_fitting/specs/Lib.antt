-- The definitions.
pub mod Fitting
