-- The lemmas.
pub mod Fitting
pub mod KindsFit
