-- The lemmas.
pub mod KeptLemmas
pub mod BoundedLogLemmas
pub mod Rooms
pub mod WeightLemmas
pub mod CloneLemmas
