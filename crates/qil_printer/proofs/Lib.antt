-- The lemmas of this crate.
pub mod CanonicalLemmas
pub mod CanonicalCuts
pub mod Writes
pub mod Writable
pub mod WritesInsts
pub mod WritesJumps
pub mod WordsFit
pub mod Spelled
pub mod Respells
pub mod Whole
