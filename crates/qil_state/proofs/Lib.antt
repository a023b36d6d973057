-- The lemmas of this crate.
pub mod Distinct
pub mod Reading
pub mod Resolved
pub mod Place
pub mod InstHere
pub mod JumpHere
pub mod Stepping
pub mod Entering
pub mod EdgeHere
pub mod Leaving
pub mod Passing
pub mod Beginning
pub mod Costs
