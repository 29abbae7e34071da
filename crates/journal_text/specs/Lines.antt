-- How an act and a list of acts are spelt. Lists of acts stand newest first.
use Rattle.std.specs.Prelude.{ℕ, List, [], ◌∷◌, ◌++◌, codes}
use Rattle.std.specs.Fmt.{decimal}
use Rattle.std.specs.List.{join_with_byte}
use Rattle.std.specs.Str.{byte}
use Rattle.relay_model.specs.{newline, Act}
use Rattle.relay_model.specs.declared.acts.Act.TheVariants as act
use Rattle.journal_text.specs.Fields.{flag_text, optional_text, place_text, ready_text, bytes_text, peer_text, shut_text, why_text, child_text}

-- the word of an act, and its fields
abbrev pub words_of : Act → List (List ℕ)
words_of (act.Turn until at ready stop) = codes "turn" ∷ optional_text until ∷ decimal at ∷ ready_text ready.entries ∷ flag_text stop ∷ []
words_of (act.Opened p) = codes "opened" ∷ place_text p ∷ []
words_of (act.OpenLater p) = codes "later" ∷ place_text p ∷ []
words_of (act.OpenFailed p) = codes "openfail" ∷ place_text p ∷ []
words_of (act.Listening p) = codes "listening" ∷ place_text p ∷ []
words_of (act.ListenFailed p) = codes "listenfail" ∷ place_text p ∷ []
words_of (act.Accepted p peer) = codes "accepted" ∷ place_text p ∷ peer_text peer ∷ []
words_of (act.NoPeer p) = codes "nopeer" ∷ place_text p ∷ []
words_of (act.AcceptFailed p) = codes "acceptfail" ∷ place_text p ∷ []
words_of (act.Read p bytes) = codes "read" ∷ place_text p ∷ bytes_text bytes ∷ []
words_of (act.ReadEmpty p) = codes "empty" ∷ place_text p ∷ []
words_of (act.ReadEnd p) = codes "end" ∷ place_text p ∷ []
words_of (act.ReadNotYet p) = codes "readnotyet" ∷ place_text p ∷ []
words_of (act.ReadFault p) = codes "readfault" ∷ place_text p ∷ []
words_of (act.Wrote p bytes) = codes "wrote" ∷ place_text p ∷ bytes_text bytes ∷ []
words_of (act.WriteNotYet p) = codes "writenotyet" ∷ place_text p ∷ []
words_of (act.WriteFault p) = codes "writefault" ∷ place_text p ∷ []
words_of (act.Shut p how) = codes "shut" ∷ place_text p ∷ shut_text how ∷ []
words_of (act.ShutFault p how) = codes "shutfault" ∷ place_text p ∷ shut_text how ∷ []
words_of (act.Closed p why) = codes "closed" ∷ place_text p ∷ why_text why ∷ []
words_of (act.Reaped p end) = codes "reaped" ∷ place_text p ∷ child_text end ∷ []
words_of (act.Note bytes) = codes "note" ∷ bytes_text bytes ∷ []
words_of (act.NoteFault bytes) = codes "notefault" ∷ bytes_text bytes ∷ []

-- with one space between
abbrev pub body_of : Act → List ℕ
body_of a = join_with_byte (byte " ") (words_of a)

-- the line of an act
abbrev pub line_of : Act → List ℕ
line_of a = body_of a ++ newline

-- the lines of the acts, the oldest first
abbrev pub spelt : List Act → List ℕ
spelt [] = []
spelt (a ∷ past) = spelt past ++ line_of a
