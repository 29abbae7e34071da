pub mod Answers
pub mod Commands
pub mod Courses
pub mod Ended
pub mod Headline
pub mod Pauses
pub mod Runs
pub use Commands.{Runnable}
pub use Courses.{OnlyOwn, Risen, ends_in_turn}
pub use Ended.{Happened, HasRunEnded}
pub use Headline.{Completes, RelayHeadline, StopCause, is_failure, is_relayed}
pub use Pauses.{PauseIs, ends_all}
pub use Runs.{Ran, Run, RunsOn}
pub use declared.pauses.Pause.{Pause}
