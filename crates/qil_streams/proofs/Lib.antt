-- The lemmas of this crate.
pub mod DeviceLemmas
pub mod ReaderLemmas
pub mod ScriptLemmas
pub mod TextLemmas
pub mod FragmentLemmas
