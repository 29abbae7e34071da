pub mod Answers
pub mod Bases
pub mod Endings
pub mod PortTables
pub mod Ports
pub use Answers.{GotFits, SaidSo, TookFits, is_got_not_yet, is_took_not_yet, is_unsaid}
pub use Bases.{IsStandard, is_standard, key_of, standard_of}
pub use Endings.{EndsSo, OnJoinedBack, handed, is_left}
pub use PortTables.{AtMade, BeginsAt, CalledAt, EndsAt, Errors, Input, Made, MadeCall, Output, PortId, SameStreams}
pub use PortTables.{StreamCall, StreamFailed, StreamNotes, StreamsStay, giving_port, hint_told, place_of, taking_port}
pub use Ports.{EntrySeen, FailsToBegin, IsOf, StreamSeen}
pub use declared.endings.Back.{Back}
pub use declared.bases.Base.{Base}
pub use declared.table.PortTable.{PortTable}
