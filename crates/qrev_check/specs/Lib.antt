-- The definitions of this crate.
pub mod Told
pub mod Report
