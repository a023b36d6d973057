-- The lemmas of this crate.
pub mod Parts
pub mod OneMore
pub mod Defining
pub mod Tables
pub mod Whole
pub mod FactsBlocks
pub mod Facts
pub mod KnownLabels
pub mod SetsOfNames
