-- The definitions of this crate.
pub mod Gather
pub mod Slots
pub mod Numbered
pub mod Named
pub mod Ranges
pub mod Moves
pub mod Facts
pub mod Reading
