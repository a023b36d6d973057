-- The words of this crate's contracts.
pub mod Frame
pub mod Incoming
pub mod Open
pub mod Outgoing
pub mod Requests
