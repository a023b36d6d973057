-- The definitions.
pub mod Accesses
pub mod Ahead
