-- The words of this crate's contracts.
pub mod Device
pub mod Reader
pub mod Reading
pub mod Script
pub mod Text
