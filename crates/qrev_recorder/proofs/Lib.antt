-- What this crate proves besides the goals of its functions.
pub mod Recording
pub mod Moves
pub mod Beginnings
pub mod Lines
