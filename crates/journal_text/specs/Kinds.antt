-- The kind of an act, and what its line has after the word of that kind.
use Rattle.std.specs.Prelude.{ℕ, List, drop}
use Rattle.std.specs.List.{join_with_byte}
use Rattle.std.specs.Str.{byte}
use Rattle.relay_model.specs.{Act}
use Rattle.relay_model.specs.declared.acts.Act.TheVariants as act
use Rattle.journal_text.specs.declared.kinds.ActKind.{ActKind}
use Rattle.journal_text.specs.declared.kinds.ActKind.TheVariants as kind
use Rattle.journal_text.specs.Lines.{words_of}

-- the kind of an act
abbrev pub kind_of : Act → ActKind
kind_of (act.Turn until at ready stop) = kind.Turn
kind_of (act.Opened p) = kind.Opened
kind_of (act.OpenLater p) = kind.OpenLater
kind_of (act.OpenFailed p) = kind.OpenFailed
kind_of (act.Listening p) = kind.Listening
kind_of (act.ListenFailed p) = kind.ListenFailed
kind_of (act.Accepted p peer) = kind.Accepted
kind_of (act.NoPeer p) = kind.NoPeer
kind_of (act.AcceptFailed p) = kind.AcceptFailed
kind_of (act.Read p bytes) = kind.Read
kind_of (act.ReadEmpty p) = kind.ReadEmpty
kind_of (act.ReadEnd p) = kind.ReadEnd
kind_of (act.ReadNotYet p) = kind.ReadNotYet
kind_of (act.ReadFault p) = kind.ReadFault
kind_of (act.Wrote p bytes) = kind.Wrote
kind_of (act.WriteNotYet p) = kind.WriteNotYet
kind_of (act.WriteFault p) = kind.WriteFault
kind_of (act.Shut p how) = kind.Shut
kind_of (act.ShutFault p how) = kind.ShutFault
kind_of (act.Closed p why) = kind.Closed
kind_of (act.Reaped p end) = kind.Reaped
kind_of (act.Note bytes) = kind.Note
kind_of (act.NoteFault bytes) = kind.NoteFault

-- the fields of an act, with one space between
abbrev pub fields_of : Act → List ℕ
fields_of a = join_with_byte (byte " ") (drop 1 (words_of a))
