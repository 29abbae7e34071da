pub mod Echoes
pub mod Intakes
pub mod Makers
pub mod Pollers
pub mod Ports
pub mod Scripts
pub mod Sinks
pub mod Sources
pub mod Spawners
pub use Echoes.{EchoState}
pub use Scripts.{IsFilled, given_of}
