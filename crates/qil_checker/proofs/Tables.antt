-- What tables say: of a recorded name, of two lists of names, of how many names there are.
pub mod Same
pub mod Counts
pub mod Recorded
