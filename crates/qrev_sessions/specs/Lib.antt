-- The words of this crate's contracts.
pub mod Copied
pub mod Ways
