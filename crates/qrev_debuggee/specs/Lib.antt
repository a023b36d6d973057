-- The words of this crate's contracts.
pub mod Hits
pub mod Moves
-- what this crate's own are stated with, for what stands on it
pub use Rattle.qrev_recorder.specs.qil_replies as qil_replies
pub use Rattle.qrev_recorder.specs as qrev_recorder
