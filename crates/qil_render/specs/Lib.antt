-- What is shown of a run: the texts of fragments, places and values, and what each command that shows something tells.
pub mod Texts
pub mod Shown
pub mod Listing
pub mod Slots
pub mod Frames
-- what this crate's own are stated with, for what stands on it
pub use Rattle.qil_state.specs as qil_state
