-- The definitions.
pub mod Room
pub mod Answer
pub mod Laws
