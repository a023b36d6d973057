-- The lemmas.
pub mod PokeLemmas
pub mod FarBytes
