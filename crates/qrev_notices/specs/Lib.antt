-- The words of this crate's contracts.
pub mod Conversation
pub mod Last
pub mod Reading
