-- The definitions of this crate.
pub mod Notes
pub mod Adding
pub mod Run
pub mod Looked
