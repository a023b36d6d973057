-- What `debug` writes.
pub use Rattle.qil_session.specs.Serve
pub mod Debug
pub mod Handed
