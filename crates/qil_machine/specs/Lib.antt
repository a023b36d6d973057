-- The definitions.
pub mod Moves
pub mod Kinds
pub mod UndoRecords
pub mod Places
pub mod Results
pub mod Steps
pub mod Starting
pub mod Calls
pub mod Pokes
pub mod Readings
pub mod Costs
pub mod Placed
-- what this crate's own are stated with, for what stands on it
pub use Rattle.qil_code.specs as qil_code
pub use Rattle.qil_frames.specs as qil_frames
pub use Rattle.qil_state.specs as qil_state
