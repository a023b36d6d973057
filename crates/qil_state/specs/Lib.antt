-- The definitions.
pub mod Faults
pub mod State
pub mod Stepping
pub mod Values
pub mod Beginning
