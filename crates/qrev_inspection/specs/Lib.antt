-- The words of this crate's contracts.
pub mod Shown
pub mod Requested
pub mod ReadBytes
pub mod Taken
pub mod Setting
