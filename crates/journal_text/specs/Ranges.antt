-- What an act holds: each number is within its type, and a turn names at most 256 halves.
use Rattle.std.specs.Prelude.{◌≡◌, ℕ, ◌^◌, ◌<◌, ◌≤◌, List, length, Option, Some, None, FitsSigned}
use Rattle.std.specs.Int.{w32}
use Rattle.std.specs.List.{AllByRecursion}
use Rattle.relay_model.specs.{Place, ReadyAt, Peer, ChildEnd, Act}
use Rattle.relay_model.specs.declared.acts.Peer.TheVariants.{V4, V6, Local}
use Rattle.relay_model.specs.declared.acts.ChildEnd.TheVariants.{Running, Ended, Killed}
use Rattle.relay_model.specs.declared.acts.Act.TheVariants as act

-- a number of 64 bits
abbrev pub IsMoment : ℕ → Type 0
IsMoment n = n < 2 ^ 64

-- such a number, or none
abbrev pub IsOptionalMoment : Option ℕ → Type 0
IsOptionalMoment None = Unit {0}
IsOptionalMoment (Some n) = IsMoment n

-- the session's number has 32 bits
abbrev pub IsPlace : Place → Type 0
IsPlace p = p.session < 2 ^ 32

-- at most 256 entries, each at such a place
abbrev pub IsReady : List ReadyAt → Type 0
IsReady entries = (length entries ≤ 256) × AllByRecursion (λ entry. IsPlace entry.place) entries

-- each number is a byte
abbrev pub IsBytes : List ℕ → Type 0
IsBytes bytes = AllByRecursion (λ b. b < 256) bytes

-- a number of 16 bits
abbrev pub IsPort : ℕ → Type 0
IsPort n = n < 2 ^ 16

-- an address of its length, and a port
abbrev pub IsPeer : Peer → Type 0
IsPeer (V4 addr port) = (length addr ≡ 4) × IsBytes addr × IsPort port
IsPeer (V6 addr port) = (length addr ≡ 16) × IsBytes addr × IsPort port
IsPeer Local = Unit {0}

-- a child's status has 32 bits with a sign
abbrev pub IsChildEnd : ChildEnd → Type 0
IsChildEnd Running = Unit {0}
IsChildEnd Killed = Unit {0}
IsChildEnd (Ended status) = FitsSigned w32 status

-- each number of the act lies within its type
abbrev pub IsAct : Act → Type 0
IsAct (act.Turn until at ready stop) = IsOptionalMoment until × IsMoment at × IsReady ready.entries
IsAct (act.Opened p) = IsPlace p
IsAct (act.OpenLater p) = IsPlace p
IsAct (act.OpenFailed p) = IsPlace p
IsAct (act.Listening p) = IsPlace p
IsAct (act.ListenFailed p) = IsPlace p
IsAct (act.Accepted p peer) = IsPlace p × IsPeer peer
IsAct (act.NoPeer p) = IsPlace p
IsAct (act.AcceptFailed p) = IsPlace p
IsAct (act.Read p bytes) = IsPlace p × IsBytes bytes
IsAct (act.ReadEmpty p) = IsPlace p
IsAct (act.ReadEnd p) = IsPlace p
IsAct (act.ReadNotYet p) = IsPlace p
IsAct (act.ReadFault p) = IsPlace p
IsAct (act.Wrote p bytes) = IsPlace p × IsBytes bytes
IsAct (act.WriteNotYet p) = IsPlace p
IsAct (act.WriteFault p) = IsPlace p
IsAct (act.Shut p how) = IsPlace p
IsAct (act.ShutFault p how) = IsPlace p
IsAct (act.Closed p why) = IsPlace p
IsAct (act.Reaped p end) = IsPlace p × IsChildEnd end
IsAct (act.Note bytes) = IsBytes bytes
IsAct (act.NoteFault bytes) = IsBytes bytes
