-- Which texts are accepted, for what others are refused, and the lines that are reported of both.
pub mod Load
pub mod LoadError
pub mod Lines
