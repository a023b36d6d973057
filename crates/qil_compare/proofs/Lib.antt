-- The lemmas of this crate, and worked rows.
pub mod Due
pub mod Staying
pub mod Stretching
pub mod Places
pub mod Happening
pub mod Calling
pub mod Likeness
pub mod Walking
pub mod Sameness
pub mod Fronts
pub mod Longest
pub mod EventRows
