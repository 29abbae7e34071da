pub mod Lines
pub mod Outcomes
pub mod Statuses
pub use Lines.{line, usage, version}
pub use Outcomes.{IsOutcome, half_of}
pub use Statuses.{exit_code}
pub use declared.outcomes.Outcome.{Outcome}
