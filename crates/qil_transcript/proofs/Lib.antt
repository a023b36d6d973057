-- The lemmas of this crate, from a session that was just opened up to whole transcripts.
pub mod DebugLemmas
pub mod OpenedLemmas
