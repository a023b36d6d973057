-- The words of this crate's contracts.
pub mod Status
pub mod Told
