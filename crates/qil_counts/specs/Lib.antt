-- The definitions.
pub mod Counts
pub mod Rows
