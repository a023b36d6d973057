-- The lemmas, from runs of bytes up to whole texts.
pub mod Runs
pub mod Gaps
pub mod Lines
pub mod Items
pub mod Tails
pub mod Walk
pub mod Unique
pub mod Law
pub mod Values
pub mod Escapes
