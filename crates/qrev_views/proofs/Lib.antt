-- The lemmas of this crate.
pub mod ShownTexts
pub mod Pages
pub mod Each
pub mod Rows
pub mod ShownPlaces
pub mod Stacks
pub mod Counted
pub mod ReadNumbers
