pub mod Converted
pub use Converted.{converted}
