-- The definitions of this crate.
pub mod Ways
pub mod Calls
pub mod Flat
pub mod Laid
pub mod StackCalls
pub mod Entry
pub mod Cut
pub mod Stack
pub mod Kept
pub mod Shown
pub mod Shortened
