-- The definitions.
pub mod Layout
pub mod Callee
pub mod Codes
-- what this crate's own are stated with, for what stands on it
pub use Rattle.qil_rules.specs as qil_rules
