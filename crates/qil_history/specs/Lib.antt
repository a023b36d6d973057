-- The definitions.
pub mod Pokes
pub mod Viewed
-- what this crate's own are stated with, for what stands on it
pub use Rattle.qil_machine.specs.qil_code as qil_code
pub use Rattle.qil_machine.specs as qil_machine
pub use Rattle.qil_machine.specs.qil_state as qil_state
