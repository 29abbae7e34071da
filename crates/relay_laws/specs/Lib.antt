pub mod Births
pub mod Examples
pub mod Holdings
pub mod Laws
pub mod Packets
pub mod Sleeps
pub mod Stories
pub use Births.{OnlyHeldWereNamed, is_named_by}
pub use Examples.{at, forked_command, listed, named}
pub use Packets.{at_most_one}
pub use Sleeps.{IsBefore, IsQuiet, RestsUntil, Since}
pub use Stories.{is_own_place, own_entries}
