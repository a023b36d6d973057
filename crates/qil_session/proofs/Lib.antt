-- The lemmas of this crate.
pub mod MoveAnswers
pub mod AccessAnswers
pub mod CountAnswers
pub mod SpanAnswers
pub mod PokeAnswers
pub mod StopAnswers
pub mod ShownAnswers
pub mod KeptLemmas
pub mod ServeLemmas
pub mod FewLemmas
pub mod Explaining
