-- The definitions of this crate.
pub mod Values
pub mod Operations
pub mod Division
