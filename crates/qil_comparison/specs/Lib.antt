-- The definitions.
pub mod Told
pub mod Running
pub mod Compared
pub mod Handed
