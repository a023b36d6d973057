-- The lemmas of this crate.
pub mod Here
pub mod Named
pub mod Listed
