pub mod Answers
pub mod HoldTables
pub mod Recordings
pub mod Seen
pub use Answers.{Answered, AnsweredAsking, DidNothing, NamesHeld, NotReaped, OnlyHeldNamed, OnlyWhereTold, RaisesCounts}
pub use Answers.{ReadFits, Rose, WaitCounts, WriteFits, accept_act, close_act, is_accept_fault, is_listen_fault}
pub use Answers.{is_note_fault, is_open_fault, is_read_fault, is_send_fault, is_shut_fault, is_write_fault, listen_act}
pub use Answers.{note_act, open_act, read_act, reap_act, says_stop, send_act, shut_act, wait_act, wants_read_memory}
pub use Answers.{wants_send_memory, wants_shut_memory, wants_turn_memory, wants_write_memory, write_act}
pub use HoldTables.{SetsHold, hold_found, hold_of, lookup}
pub use Recordings.{HasAskingRoom, HasRoom, KeepsNothing, told_by, told_kept, with_act, with_asking}
pub use Seen.{IsFresh, SameRun, Waitless}
pub use declared.answers.AcceptAnswer.{AcceptAnswer}
pub use declared.answers.ListenAnswer.{ListenAnswer}
pub use declared.answers.NoteAnswer.{NoteAnswer}
pub use declared.answers.OpenAnswer.{OpenAnswer}
pub use declared.answers.ReadAnswer.{ReadAnswer}
pub use declared.answers.ReapAnswer.{ReapAnswer}
pub use declared.answers.SendAnswer.{SendAnswer}
pub use declared.answers.ShutAnswer.{ShutAnswer}
pub use declared.answers.Turned.{Turned}
pub use declared.answers.WriteAnswer.{WriteAnswer}
