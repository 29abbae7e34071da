pub mod Pollers
pub use Pollers.{is_reserved}
