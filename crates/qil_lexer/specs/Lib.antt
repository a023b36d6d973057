-- What texts, tokens and faults are; and, for the parts of the lexer, what is at the start of a text.
pub mod Shape
pub mod Cut
pub mod Prefix
pub mod Walk
pub mod Text
