-- The words of this crate's contracts.
pub mod Lines
pub mod Marks
pub mod Places
