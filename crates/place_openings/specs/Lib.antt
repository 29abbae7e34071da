pub mod Attempts
pub mod Moves
pub mod Queries
pub mod Stands
pub mod Steps
pub mod Summaries
pub mod Touching
pub mod Tried
pub use Attempts.{Spends, attempts_in}
pub use Queries.{child_by, first_of, peer_at, peer_of_first}
pub use Stands.{AreOpenings}
pub use Steps.{calls_among, has_asked, steps_in}
pub use Tried.{call_by, is_end_of_tries}
pub use declared.given_up.GivenUp.{GivenUp}
