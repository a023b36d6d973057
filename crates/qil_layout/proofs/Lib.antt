-- The lemmas.
pub mod FewFunctions
pub mod BytesLemmas
