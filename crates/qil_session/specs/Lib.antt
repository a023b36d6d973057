-- What a session keeps, and what answering a line does to it.
pub mod Kept
pub mod AnsweredLine
pub mod Gathered
pub mod Counted
pub mod Spanned
pub mod Serve
-- what this crate's own are stated with, for what stands on it
pub use Rattle.qil_replies.specs as qil_replies
