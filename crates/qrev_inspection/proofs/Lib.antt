-- The lemmas of this crate.
pub mod Lifting
pub mod Reading
pub mod Exits
pub mod Spelling
pub mod Poked
pub mod Sets
