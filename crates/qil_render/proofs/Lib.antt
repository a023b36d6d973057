-- The lemmas of this crate.
pub mod Reported
pub mod Here
pub mod SlotValues
pub mod ListLines
pub mod MemoryBytes
