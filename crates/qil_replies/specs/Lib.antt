-- What commands are replied, as text; what their words name, and the answer to each line.
pub mod Texts
pub mod Reply
pub mod SessionState
pub mod Answers
pub mod Reached
pub mod Transcript
-- what this crate's own are stated with, for what stands on it
pub use Rattle.qil_render.specs as qil_render
pub use Rattle.qil_stops.specs as qil_stops
