-- Lemmas.
pub mod Ruled
pub mod Room
pub mod Later
pub mod Noting
pub mod ByNumber
pub mod Beside
pub mod Beginning
pub mod RunLemmas
