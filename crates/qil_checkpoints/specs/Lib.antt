-- The definitions.
pub mod Walk
pub mod Held
pub mod Hits
pub mod CallDepths
