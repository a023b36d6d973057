-- What an editor is shown, as a function of the state of the meaning.
pub mod Texts
pub mod Values
pub mod Pages
pub mod Variables
pub mod Frames
pub mod Scopes
pub mod Sources
