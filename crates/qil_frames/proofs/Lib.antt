pub mod Innermost
pub mod ValueLemmas
pub mod Exchanging
pub mod PhiLemmas
pub mod Within
pub mod Entering
