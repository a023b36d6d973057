-- The lemmas.
pub mod Tables
pub mod Texts
pub mod Programs
