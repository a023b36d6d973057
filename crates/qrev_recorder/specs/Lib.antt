-- The words of this crate's contracts.
pub mod Record
pub mod Done
-- what this crate's own are stated with, for what stands on it
pub use Rattle.qil_replies.specs as qil_replies
