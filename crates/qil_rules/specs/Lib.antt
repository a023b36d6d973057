-- The definitions.
pub mod Codes
pub mod Operands
pub mod Occurrences
pub mod Text
pub mod Rules
pub mod Forms
pub mod Verdict
