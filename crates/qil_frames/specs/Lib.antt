-- The definitions.
pub mod Frames
pub mod Enter
pub mod Kept
pub mod Taken
