-- The lemmas of this crate.
pub mod Kept
pub mod Naming
pub mod Telling
pub mod OnWay
pub mod BackWay
pub mod Walks
pub mod Walking
pub mod OneEnd
pub mod Told
pub mod Unbroken
