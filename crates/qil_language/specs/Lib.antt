-- The definitions of this crate.
pub mod Language
pub mod Reading
pub mod Reads
