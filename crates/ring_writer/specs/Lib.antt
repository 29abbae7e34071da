pub mod Writer
pub mod WriterPuts
pub mod WriterRing
pub mod WriterThread
pub mod Writers
pub use Writers.{WriterState, took_of}
