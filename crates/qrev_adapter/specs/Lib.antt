-- The words of this crate's contracts.
pub mod Asked
pub mod Opened
pub mod Served
