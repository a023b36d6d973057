-- The definitions.
pub mod Spans
pub mod Table
pub mod Laws
