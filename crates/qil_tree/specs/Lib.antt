-- The definitions of this crate.
pub mod Types
pub mod Trees
