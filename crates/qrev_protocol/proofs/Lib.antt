-- The lemmas of this crate.
pub mod Chunks
pub mod Exits
pub mod Framed
pub mod Heads
pub mod Lines
pub mod Lost
pub mod Messages
pub mod Numbers
pub mod Open
pub mod Names
