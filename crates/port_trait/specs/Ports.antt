-- What contracts see of a port, and what each call on it does to that. What a port doesn't tell is None.
use Rattle.std.specs.Prelude.{◌≡◌, ℕ, Bool, true, false, ◌&&◌, List, Option, None, IfSome}
use Rattle.relay_model.specs.{Shut}
use Rattle.port_trait.specs.Counting.{Tallied}
use Rattle.port_trait.specs.Direct.{no_counts}
use Rattle.port_trait.specs.Hinting.{IsWithin, all_hints}
use Rattle.port_trait.specs.Meanings.{Gives, Accepts, AcceptsWhole, AcceptsAll, ReapsChild, Behind, FinishedBehind, OnJoined, join_answer, begun_after, is_end, emptied, begin_event, settle_event, read_event, write_event, shut_event, noted}
use Rattle.port_trait.specs.Serving.{Serving, Called, Shuts as ShutsServed, MisusesCounted, AreExplained, is_begin_served}
use Rattle.port_trait.specs.declared.counts.PortCounts.{PortCounts}
use Rattle.port_trait.specs.declared.answers.Hint.{Hint}
use Rattle.port_trait.specs.declared.answers.Begun.{Begun as BeginAnswer}
use Rattle.port_trait.specs.declared.answers.Begun.TheVariants as begins
use Rattle.port_trait.specs.declared.answers.Settled.{Settled}
use Rattle.port_trait.specs.declared.answers.Got.{Got}
use Rattle.port_trait.specs.declared.answers.Took.{Took as WriteAnswer}
use Rattle.port_trait.specs.declared.answers.Shutting.{Shutting}
use Rattle.port_trait.specs.declared.answers.PortReap.{PortReap}
use Rattle.port_trait.specs.declared.answers.Joining.{Joining}

-- the source or the sink behind a port, since `begin`: what it gave, what it took before its first fault, how far its
-- counts of faults and ends rose, what it has left, and whether the last call on it was a `finish` that answered true
pub record BehindSeen : Type 0 where
  pub gave : Option (List ℕ)
  pub took : Option (List ℕ)
  pub faults : Option ℕ
  pub ends : Option ℕ
  pub left : Option (List ℕ)
  pub finished : Option Bool

-- what contracts see of a port: the bytes that `read` handed out, and those that `write`, `put_all` and `send`
-- accepted; how it was told that no more will be written, each time; how many empty packets `read` handed out; what is
-- behind it; which calls it serves, and how many of its faults are calls that it doesn't; the answer that `hint` gives,
-- and the halves that `hint` may tell of until the next other call; what was counted; whether a `begin` answered
-- `Begun`, and whether the last read answered `End`; whether a `join` would answer `Joined`, and whether the port has a
-- child
pub record PortSeen : Type 0 where
  pub gave : Option (List ℕ)
  pub took : Option (List ℕ)
  pub shuts : Option (List Shut)
  pub empty_packets : Option ℕ
  pub behind : BehindSeen
  pub served : Option Serving
  pub hints : Option Hint
  pub hinting : Hint
  pub counts : PortCounts
  pub begun : Bool
  pub ended : Bool
  pub joins : Bool
  pub child : Bool

-- nothing is told of what is behind
abbrev pub nothing_behind : BehindSeen
nothing_behind = record { gave = None; took = None; faults = None; ends = None; left = None; finished = None }

-- a port that tells nothing beyond its answers, may hint at anything, joins at once and has no child. A port says what
-- differs
abbrev pub untold : PortSeen
untold = record { gave = None; took = None; shuts = None; empty_packets = None; behind = nothing_behind; served = None; hints = None; hinting = all_hints; counts = no_counts; begun = false; ended = false; joins = true; child = false }

-- no byte was given or taken, and no end was passed on
pub record MovesNothing (before now : PortSeen) : Type 0 where
  pub gave : now.gave ≡ before.gave
  pub took : now.took ≡ before.took
  pub unshut : now.shuts ≡ before.shuts

-- a beginning moves no bytes, and counts as its answer says
pub record Begins (before now : PortSeen) (answer : BeginAnswer) : Type 0 where
  pub still : MovesNothing before now
  pub unemptied : now.empty_packets ≡ before.empty_packets
  pub ended : now.ended ≡ before.ended
  pub counts : Tallied (begin_event answer) before.counts now.counts

-- after a beginning the port has begun or stands as it was, and each misuse was counted where it has
pub record StandsBegun (before now : PortSeen) (answer : BeginAnswer) : Type 0 where
  pub begun : now.begun ≡ begun_after before.begun answer
  pub served : Called (λ _. is_begin_served answer) before.served now.served
  pub misused : answer ≡ begins.Begun → MisusesCounted now.served now.counts

-- a settling moves no bytes, and counts as its answer says
pub record Settles (before now : PortSeen) (answer : Settled) : Type 0 where
  pub still : MovesNothing before now
  pub unemptied : now.empty_packets ≡ before.empty_packets
  pub begun : now.begun ≡ before.begun
  pub ended : now.ended ≡ before.ended
  pub child : now.child ≡ before.child
  pub served : now.served ≡ before.served
  pub counts : Tallied (settle_event answer) before.counts now.counts

-- a read gives bytes as its answer says
pub record Reads (before now : PortSeen) (into : List ℕ) (answer : Got) : Type 0 where
  pub gives : Gives before.gave now.gave into answer
  pub took : now.took ≡ before.took
  pub unshut : now.shuts ≡ before.shuts
  pub emptied : now.empty_packets ≡ emptied answer before.empty_packets
  pub begun : now.begun ≡ before.begun
  pub ended : now.ended ≡ is_end answer
  pub child : now.child ≡ before.child
  pub served : Called (λ serving. serving.reads) before.served now.served
  pub counts : Tallied (read_event answer) before.counts now.counts

-- a write takes bytes as its answer says
pub record Writes (before now : PortSeen) (bytes : List ℕ) (answer : WriteAnswer) : Type 0 where
  pub accepts : Accepts before.took now.took bytes answer
  pub gave : now.gave ≡ before.gave
  pub unshut : now.shuts ≡ before.shuts
  pub unemptied : now.empty_packets ≡ before.empty_packets
  pub begun : now.begun ≡ before.begun
  pub ended : now.ended ≡ before.ended
  pub child : now.child ≡ before.child
  pub served : Called (λ serving. before.begun && serving.writes) before.served now.served
  pub counts : Tallied (write_event answer) before.counts now.counts

-- a packet is taken whole or not at all
pub record Sends (before now : PortSeen) (bytes : List ℕ) (answer : WriteAnswer) : Type 0 where
  pub accepts : AcceptsWhole before.took now.took bytes answer
  pub gave : now.gave ≡ before.gave
  pub unshut : now.shuts ≡ before.shuts
  pub unemptied : now.empty_packets ≡ before.empty_packets
  pub begun : now.begun ≡ before.begun
  pub ended : now.ended ≡ before.ended
  pub child : now.child ≡ before.child
  pub served : Called (λ _. false) before.served now.served
  pub counts : Tallied (write_event answer) before.counts now.counts

-- bytes are put whole or the call failed
pub record PutsAll (before now : PortSeen) (bytes : List ℕ) (answer : WriteAnswer) : Type 0 where
  pub accepts : AcceptsAll before.took now.took bytes answer
  pub gave : now.gave ≡ before.gave
  pub unshut : now.shuts ≡ before.shuts
  pub unemptied : now.empty_packets ≡ before.empty_packets
  pub begun : now.begun ≡ before.begun
  pub ended : now.ended ≡ before.ended
  pub child : now.child ≡ before.child
  pub served : Called (λ serving. before.begun && serving.writes) before.served now.served
  pub counts : Tallied (write_event answer) before.counts now.counts

-- a shut is passed on as it was asked for, moves no bytes, and counts as its answer says
pub record Shuts (before now : PortSeen) (how : Shut) (answer : Shutting) : Type 0 where
  pub told : now.shuts ≡ noted how before.shuts
  pub gave : now.gave ≡ before.gave
  pub took : now.took ≡ before.took
  pub unemptied : now.empty_packets ≡ before.empty_packets
  pub begun : now.begun ≡ before.begun
  pub ended : now.ended ≡ before.ended
  pub child : now.child ≡ before.child
  pub served : ShutsServed how before.served now.served
  pub counts : Tallied (shut_event answer) before.counts now.counts

-- where the port tells its hints, this is it; nothing changes
pub record HintsSo (before now : PortSeen) (hint : Hint) : Type 0 where
  pub hinted : IfSome before.hints (λ told. hint ≡ told)
  pub within : IsWithin before.hinting hint
  pub same : now ≡ before

-- the halves of which hints may tell
pub record MayHint (now : PortSeen) (may : Hint) : Type 0 where
  pub halves : may ≡ now.hinting
  pub told : IfSome now.hints (λ hint. IsWithin may hint)

-- a reaping tells of the port's child
pub record Reaps (before now : PortSeen) (answer : PortReap) : Type 0 where
  pub reaped : ReapsChild before.child answer
  pub still : MovesNothing before now
  pub unemptied : now.empty_packets ≡ before.empty_packets
  pub begun : now.begun ≡ before.begun
  pub ended : now.ended ≡ before.ended
  pub child : now.child ≡ before.child
  pub served : now.served ≡ before.served
  pub counts : Tallied None before.counts now.counts

-- a port that was joined and what is behind it agree
pub record Agrees (port : PortSeen) : Type 0 where
  pub explained : AreExplained port.served port.counts port.behind.faults port.behind.ends
  pub behind : Behind port.gave port.took port.behind.gave port.behind.took port.behind.left port.behind.faults port.ended
  pub finished : FinishedBehind port.behind.faults port.behind.finished

-- a joining answers as the port may be joined
pub record JoinsSo (before now : PortSeen) (answer : Joining) : Type 0 where
  pub joined : answer ≡ join_answer before.joins
  pub still : MovesNothing before now
  pub unemptied : now.empty_packets ≡ before.empty_packets
  pub begun : now.begun ≡ before.begun
  pub ended : now.ended ≡ before.ended
  pub joins : now.joins ≡ before.joins
  pub child : now.child ≡ before.child
  pub served : now.served ≡ before.served
  pub counts : now.counts ≡ before.counts
  pub agrees : OnJoined answer (Agrees now)
