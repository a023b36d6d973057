-- The definitions of this crate.
pub mod State
pub mod Temps
pub mod Values
pub mod Calls
pub mod Step
pub mod Start
pub mod StartCode
pub mod Poke
pub mod Timeline
pub mod Moves
pub mod Stops
pub mod Runs
pub mod Targets
pub mod Names
pub mod Slots
pub mod Laws
pub mod Cost
-- what this crate's own are stated with, for what stands on it
pub use Rattle.qil_memory.specs.qil_layout as qil_layout
