-- The lemmas of this crate.
pub mod Reports
pub mod Starting
