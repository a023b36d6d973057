-- The definitions.
pub mod Seen
pub mod Coded
pub mod Events
pub mod Next
pub mod Ahead
pub mod Answer
pub mod Longest
