-- The lemmas of this crate.
pub mod Once
pub mod Edges
pub mod Spots
pub mod Apart
pub mod FactsNames
pub mod FactsTemps
pub mod Readers
pub mod Has
pub mod Naming
pub mod KnownTemps
pub mod UnknownTemps
pub mod NamedCode
pub mod PhiMoves
pub mod Ranged
pub mod RangedCode
pub mod EdgesNamed
