-- The lemmas of this crate.
pub mod Found
pub mod Laying
pub mod Doing
pub mod Known
pub mod Stepping
pub mod Rows
pub mod Cutting
pub mod Reading
pub mod Entered
pub mod Placed
pub mod Outward
pub mod Sameness
pub mod SameBytes
pub mod DataLength
