pub mod Ledger
pub mod Plans
pub use Plans.{PlanIs, attempts_of, last_of}
pub use declared.NextTry.{NextTry}
