pub mod Entries
pub use Entries.{Keyed, keyed_code}
