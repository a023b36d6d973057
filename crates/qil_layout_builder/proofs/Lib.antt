-- The lemmas.
pub mod RoomLemmas
pub mod TableLemmas
pub mod OneMore
pub mod Starts
pub mod Named
pub mod LawLemmas
pub mod OwnNames
