-- The definitions.
pub mod Tables
pub mod Scan
pub mod Whole
pub mod Check
