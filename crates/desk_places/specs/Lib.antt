pub mod Causes
pub mod Changes
pub mod Standing
pub mod Keeping
pub mod Keys
pub mod Marks
pub mod Naming
pub mod PlaceBases
pub mod PlaceTables
pub use Causes.{AcceptCause, AskedFor, ListenCause, OpenAsks, OpenCause, StandardCause, asking}
pub use Changes.{AcceptsMade, DropsFirst, HeldAfter, KeptFor, LeavesParent, ListensMade, OpensAt, OpensMade, ReapsAnswered, ReapsKept, ReapsOut, SettledAt}
pub use Changes.{is_finished, joined_answer, made_at, making_of, shut_answer}
pub use Standing.{HasVacancy, IsSound, IsSoundBut}
pub use Keeping.{CanTakeIn, KeepsPlaces, LeavesPlace, SameButListed, SameMakerAndRoom, TakesOne}
pub use Keys.{KeyTable}
pub use Marks.{AcceptMarks, ListenMarks, MarksPlace, OpenMarks, SameMarks, SettleMarks}
pub use Naming.{CanName, HintNamed, HintsOnly, IsDue, IsNamed, NamesAt, NamesHinting, NamesKeyed, NamesListed, NamesMore, NamesOnly, NamesStandard}
pub use Naming.{PlaceNamed, PollsUntil, WaitsIdle, told_by}
pub use PlaceBases.{AcceptsOn, Leaves, ListensOn, OpensOn, SameBases, SettlesOn, StandsFor}
pub use PlaceTables.{MarksEntry, OtherEntries, SameHold, SameStanding, SetsEntry, base_at, hold_at, is_disarmed, shut_down, entry_at, with_half}
pub use declared.ports.Ports.{Ports}
pub use declared.places.PlaceEntry.{PlaceEntry}
