-- The text of one definition: places in it, its blocks and edges, and the rules that look no further.
pub mod Places
pub mod Rules
pub mod Homes
pub mod Edges
