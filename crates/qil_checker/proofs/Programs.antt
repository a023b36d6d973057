-- The texts of a whole program.
pub mod Names
pub mod Scans
pub mod Gathered
pub mod Firsts
