-- What the calls of a port do to what it gave and took. A meaning that isn't told is None before and after.
use Rattle.std.specs.Prelude.{◌≡◌, ℕ, ◌+◌, ◌≤◌, Bool, true, false, List, [], ◌∷◌, ◌++◌, length, take, Option, None, Some, option_map, IfSome, if◌then◌else◌}
use Rattle.relay_model.specs.{Shut}
use Rattle.port_trait.specs.declared.answers.Begun.{Begun as BeginAnswer}
use Rattle.port_trait.specs.declared.answers.Begun.TheVariants as begins
use Rattle.port_trait.specs.declared.answers.Settled.{Settled}
use Rattle.port_trait.specs.declared.answers.Settled.TheVariants as settles
use Rattle.port_trait.specs.declared.answers.Got.{Got}
use Rattle.port_trait.specs.declared.answers.Got.TheVariants as reads
use Rattle.port_trait.specs.declared.answers.Took.{Took as WriteAnswer}
use Rattle.port_trait.specs.declared.answers.Took.TheVariants as writes
use Rattle.port_trait.specs.declared.answers.Shutting.{Shutting}
use Rattle.port_trait.specs.declared.answers.Shutting.TheVariants as shuts
use Rattle.port_trait.specs.declared.answers.PortReap.{PortReap}
use Rattle.port_trait.specs.declared.answers.PortReap.TheVariants as reaps
use Rattle.port_trait.specs.declared.answers.Joining.{Joining}
use Rattle.port_trait.specs.declared.answers.Joining.TheVariants as joins
use Rattle.port_trait.specs.Counting.{Event, Fault, End, Empty, Stall}

-- what each answer needs as its cause
abbrev pub begin_event : BeginAnswer → Option Event
begin_event begins.Begun = None
begin_event begins.Failed = Some Fault
begin_event begins.Memory = None

-- what a settling counts as
abbrev pub settle_event : Settled → Option Event
settle_event settles.Ready = None
settle_event settles.NotYet = Some Stall
settle_event settles.Failed = Some Fault

-- what a read counts as
abbrev pub read_event : Got → Option Event
read_event (reads.Bytes n) = None
read_event reads.Empty = Some Empty
read_event reads.End = Some End
read_event reads.NotYet = Some Stall
read_event reads.Failed = Some Fault

-- what a write counts as
abbrev pub write_event : WriteAnswer → Option Event
write_event (writes.Took n) = None
write_event writes.NotYet = Some Stall
write_event writes.Failed = Some Fault

-- what a shut counts as
abbrev pub shut_event : Shutting → Option Event
shut_event shuts.Done = None
shut_event shuts.Failed = Some Fault

-- whether a port stands begun after a `begin`
abbrev pub begun_after : Bool → BeginAnswer → Bool
begun_after before begins.Begun = true
begun_after before begins.Failed = before
begun_after before begins.Memory = before

-- a read met the end
abbrev pub is_end : Got → Bool
is_end reads.End = true
is_end (reads.Bytes n) = false
is_end reads.Empty = false
is_end reads.NotYet = false
is_end reads.Failed = false

-- a read met an empty packet
abbrev pub is_empty : Got → Bool
is_empty reads.Empty = true
is_empty (reads.Bytes n) = false
is_empty reads.End = false
is_empty reads.NotYet = false
is_empty reads.Failed = false

-- a write failed
abbrev pub is_write_fault : WriteAnswer → Bool
is_write_fault (writes.Took n) = false
is_write_fault writes.NotYet = false
is_write_fault writes.Failed = true

-- a shut failed
abbrev pub is_shut_fault : Shutting → Bool
is_shut_fault shuts.Done = false
is_shut_fault shuts.Failed = true

-- what a port whose reads block may answer: it has no datagrams, and always has something to say
abbrev pub IsOfStream : Got → Type 0
IsOfStream (reads.Bytes n) = Unit {0}
IsOfStream reads.Empty = ⊥
IsOfStream reads.End = Unit {0}
IsOfStream reads.NotYet = ⊥
IsOfStream reads.Failed = Unit {0}

-- one way more that an end was passed on
abbrev pub noted : Shut → Option (List Shut) → Option (List Shut)
noted how before = option_map (λ all. all ++ how ∷ []) before

-- one empty packet more, where this answer is one
abbrev pub emptied : Got → Option ℕ → Option ℕ
emptied got before = option_map (λ n. if is_empty got then n + 1 else n) before

-- these bytes were added to what is told
abbrev pub Adds : Option (List ℕ) → Option (List ℕ) → List ℕ → Type 0
Adds before now bytes = now ≡ option_map (λ all. all ++ bytes) before

-- a read hands out the first bytes of the buffer, and with any other answer none
abbrev pub Gives : Option (List ℕ) → Option (List ℕ) → List ℕ → Got → Type 0
Gives before now into (reads.Bytes n) = (1 ≤ n) × (n ≤ length into) × Adds before now (take n into)
Gives before now into reads.Empty = now ≡ before
Gives before now into reads.End = now ≡ before
Gives before now into reads.NotYet = now ≡ before
Gives before now into reads.Failed = now ≡ before

-- a write accepts a front of the bytes, and with any other answer none
abbrev pub Accepts : Option (List ℕ) → Option (List ℕ) → List ℕ → WriteAnswer → Type 0
Accepts before now bytes (writes.Took n) = (1 ≤ n) × (n ≤ length bytes) × Adds before now (take n bytes)
Accepts before now bytes writes.NotYet = now ≡ before
Accepts before now bytes writes.Failed = now ≡ before

-- a packet is accepted as a whole or not at all
abbrev pub AcceptsWhole : Option (List ℕ) → Option (List ℕ) → List ℕ → WriteAnswer → Type 0
AcceptsWhole before now bytes (writes.Took n) = (n ≡ length bytes) × Adds before now bytes
AcceptsWhole before now bytes writes.NotYet = now ≡ before
AcceptsWhole before now bytes writes.Failed = now ≡ before

-- all is accepted, or a front of it before a fault; there is no other answer
abbrev pub AcceptsAll : Option (List ℕ) → Option (List ℕ) → List ℕ → WriteAnswer → Type 0
AcceptsAll before now bytes (writes.Took n) = (n ≡ length bytes) × Adds before now bytes
AcceptsAll before now bytes writes.NotYet = ⊥
AcceptsAll before now bytes writes.Failed = (n : ℕ) × (n ≤ length bytes) × Adds before now (take n bytes)

-- only a port without a child has none to reap
abbrev pub ReapsChild : Bool → PortReap → Type 0
ReapsChild child (reaps.Reaped how) = child ≡ true
ReapsChild child reaps.NoChild = child ≡ false

-- the answer of a joining
abbrev pub join_answer : Bool → Joining
join_answer joined = if joined then joins.Joined else joins.Running

-- all bytes begin with these
abbrev pub IsFront : List ℕ → List ℕ → Type 0
IsFront front all = (rest : List ℕ) × (all ≡ front ++ rest)

-- what a joined port knows of the source or the sink behind it
pub record Behind (gave took behind_gave behind_took behind_left : Option (List ℕ)) (behind_faults : Option ℕ) (ended : Bool) : Type 0 where
  pub given : IfSome gave (λ all. IfSome behind_gave (λ behind. behind ≡ all))
  pub taken : IfSome took (λ all. IfSome behind_took (λ behind. IsFront behind all))
  pub whole : behind_faults ≡ Some 0 → IfSome took (λ all. IfSome behind_took (λ behind. behind ≡ all))
  pub spent : ended ≡ true → IfSome behind_left (λ rest. rest ≡ [])

-- a joined port without a fault behind it has finished its sink
abbrev pub FinishedBehind : Option ℕ → Option Bool → Type 0
FinishedBehind behind_faults behind_finished = IfSome behind_finished (λ finished. behind_faults ≡ Some 0 → finished ≡ true)

-- a fact of a port that has answered `Joined`
abbrev pub OnJoined : Joining → Type 0 → Type 0
OnJoined joins.Joined P = P
OnJoined joins.Running P = Unit {0}
