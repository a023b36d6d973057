-- The definitions of this crate.
pub mod Canonical
pub mod Fragments
pub mod Respelled
