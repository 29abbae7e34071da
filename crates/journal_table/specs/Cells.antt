-- Cells of a table: moments, peers, children and reasons in a few words, and blanks beside them.
use Rattle.std.specs.Prelude.{ℕ, zero, suc, ◌-◌, ◌/◌, ◌%◌, List, [], ◌∷◌, ◌++◌, length, codes, decimal, Option, Some, None}
use Rattle.std.specs.Fmt.{signed_decimal}
use Rattle.std.specs.Net.Addr.{segments_of}
use Rattle.std.specs.Net.Text.{ipv4_text, ipv6_text}
use Rattle.relay_model.specs.{Peer, ChildEnd, Why}
use Rattle.relay_model.specs.declared.acts.Peer.TheVariants as peers
use Rattle.relay_model.specs.declared.acts.ChildEnd.TheVariants as ends
use Rattle.relay_model.specs.declared.acts.Why.TheVariants as whys
use Rattle.place_report.specs.{shown, said}
use Rattle.journal_table.specs.declared.rows.WayEnding.{WayEnding}
use Rattle.journal_table.specs.declared.rows.WayEnding.TheVariants as endings

-- so many blanks
abbrev pub blanks : ℕ → List ℕ
blanks zero = []
blanks (suc n) = blanks n ++ said " "

-- a cell at the left of a column that is so wide, and a blank
abbrev pub to_left : ℕ → List ℕ → List ℕ
to_left width cell = cell ++ (blanks (width - length cell) ++ said " ")

-- a cell at the right of a column that is so wide, and a blank
abbrev pub to_right : ℕ → List ℕ → List ℕ
to_right width cell = blanks (width - length cell) ++ (cell ++ said " ")

-- a moment in seconds, with three digits behind the point
abbrev pub seconds : ℕ → List ℕ
seconds m = decimal (m / 1000) ++ codes "." ++ decimal (m / 100 % 10) ++ decimal (m / 10 % 10) ++ decimal (m % 10)

-- a moment, or a dash where there is none
abbrev pub moment_text : Option ℕ → List ℕ
moment_text None = said "-"
moment_text (Some m) = shown (seconds m)

-- the address and the port of a peer
abbrev pub peer_text : Peer → List ℕ
peer_text (peers.V4 addr port) = ipv4_text addr ++ codes ":" ++ decimal port
peer_text (peers.V6 addr port) = codes "[" ++ ipv6_text (segments_of addr) ++ codes "]:" ++ decimal port
peer_text peers.Local = codes "local"

-- a peer, or nothing where there is none
abbrev pub peer_cell : Option Peer → List ℕ
peer_cell None = []
peer_cell (Some peer) = shown (peer_text peer)

-- what became of a child: its exit status, or a word
abbrev pub child_text : ChildEnd → List ℕ
child_text ends.Running = codes "running"
child_text (ends.Ended status) = signed_decimal status
child_text ends.Killed = codes "killed"

-- what became of a child, or nothing where that isn't known
abbrev pub child_cell : Option ChildEnd → List ℕ
child_cell None = []
child_cell (Some end) = shown (child_text end)

-- a cell behind those before it, with a comma between; an empty one changes nothing
abbrev pub beside : List ℕ → List ℕ → List ℕ
beside before [] = before
beside [] (byte ∷ bytes) = byte ∷ bytes
beside (first ∷ before) (byte ∷ bytes) = (first ∷ before) ++ said "," ++ byte ∷ bytes

-- why something was closed
abbrev pub why_text : Why → List ℕ
why_text whys.Finished = codes "finished"
why_text whys.ClosingTime = codes "closing time"
why_text whys.Idle = codes "inactivity"
why_text whys.Faulted = codes "a failed read or write"
why_text whys.OpenFailed = codes "a failed opening"
why_text whys.ListenFailed = codes "a failed listening"
why_text whys.AcceptFailed = codes "a failed accepting"
why_text whys.Refused = codes "refused"
why_text whys.Served = codes "served"
why_text whys.Stopped = codes "a stop"
why_text whys.Memory = codes "want of memory"

-- how far a direction came, in a word
abbrev pub ending_text : WayEnding → List ℕ
ending_text endings.Open = codes "open"
ending_text endings.Passed = codes "passed"
ending_text endings.Failed = codes "failed"
ending_text endings.Cut = codes "cut"
