pub mod Feeding
pub mod Readers
pub mod Starting
pub use Readers.{ReaderState, given_of}
