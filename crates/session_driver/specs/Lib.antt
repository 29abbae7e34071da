pub mod DoorSteps
pub mod Dumpers
pub mod Noted
pub mod Owing
pub mod Steps
pub use Dumpers.{Counted, IsDumpSettled, counted_at}
pub use Steps.{IsActOf, extend}
pub use declared.stepped.Stepped.{Stepped}
