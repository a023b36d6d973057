-- The words of this crate's contracts.
pub mod Maps
pub mod Mappings
pub mod Spans
