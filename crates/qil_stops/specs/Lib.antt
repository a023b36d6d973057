-- The definitions of this crate.
pub mod Listed
pub mod Named
pub mod Readings
pub mod Depths
-- what this crate's own are stated with, for what stands on it
pub use Rattle.qil_history.specs.qil_machine as qil_machine
pub use Rattle.qil_history.specs.qil_state as qil_state
