-- The definitions of this crate.
pub mod Codes
pub mod Words
pub mod Token
pub mod Grammar
pub mod Functions
pub mod DataGrammar
pub mod Programs
pub mod Parsing
pub mod FunctionParsing
pub mod Fault
pub mod Outcome
pub mod DataParsing
