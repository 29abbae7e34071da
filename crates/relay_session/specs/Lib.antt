pub mod Births
pub mod Blames
pub mod Conditions
pub mod Endings
pub mod Lanes
pub mod Sessions
pub mod Standings
pub mod States
pub mod Steps
pub mod Timers
pub mod Told
pub mod Transfers
pub mod Wishes
pub use Births.{BeginsSession}
pub use Blames.{is_blamed}
pub use Endings.{Ends}
pub use Sessions.{AsksEach, Heard, HeardTurn, Hears, HearsTurn, IsGrounded, IsPendingSession, Leaver, Stands, ending_of, has_asked_at, has_ended}
pub use Sessions.{left_of, waiting_of, wish_of}
pub use States.{Ground, IsDone, Sleeps, Wished, home}
pub use Timers.{session_until}
pub use Told.{stop_turned, told_listening, told_opening}
pub use Wishes.{Fits, act_of, reaps_at}
pub use declared.wishes.Answer.{Answer}
pub use declared.sessions.PendingSession.{PendingSession}
pub use declared.sessions.Session.{Session}
pub use declared.states.State.{State}
pub use declared.wishes.Wish.{Wish}
