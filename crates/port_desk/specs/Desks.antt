-- What a call makes of a desk, in one word for each thing that it may change: what is kept of it, and the ports.
use Rattle.std.specs.Prelude.{◌≡◌, ◌≤◌, ◌<◌, ◌+◌, ℕ, Bool, true, false, List, length, Option, None, Some, IfSome, option_map, vec_capacity, vec_len}
use Rattle.slab.specs.Slab.{SameValues}
use Rattle.relay_model.specs.{Shut, Half, Place, Listed, ReadyAt}
use Rattle.world_trait.specs.{Answered, HasRoom, WaitCounts, wait_act, Turned, ReadAnswer, WriteAnswer, SendAnswer, ShutAnswer, NoteAnswer}
use Rattle.world_trait.specs.Seen.{Seen}
use Rattle.port_table.specs.{EndsAt, PortId, Base, SameStreams}
use Rattle.port_trait.specs.{Hint, PortSeen, finishes}
use Rattle.desk_places.specs.{HasVacancy, SetsEntry, shut_down, base_at, entry_at, hold_at, with_half, PlaceEntry, Ports, NamesHinting, NamesKeyed, NamesOnly, PollsUntil, WaitsIdle}
use Rattle.world_trait.specs.declared.answers.ReadAnswer.TheVariants as reads
use Rattle.world_trait.specs.declared.answers.WriteAnswer.TheVariants as writes
use Rattle.world_trait.specs.declared.answers.SendAnswer.TheVariants as sends
use Rattle.world_trait.specs.declared.answers.ShutAnswer.TheVariants as shuts
use Rattle.port_desk.specs.Calls.{NotesAs}
use Rattle.port_desk.specs.Records.{CountsStop}
use Rattle.port_desk.specs.declared.records.Log.{Log}

-- what the relay sees of a desk
abbrev pub seen_of : Log → Seen
seen_of log = record {
  told = log.recording.told;
  held = hold_at log.places.entries;
  faults = log.counts.faults;
  waits = log.counts.waits;
  stops = log.counts.stops;
  clock = log.last;
}

-- what a wait does: its act is told, no fault is counted, and a turn with its stop where it wanted no memory
pub record Turns (until : Option ℕ) (ready : Listed) (result : Turned) (before now : Log) : Type 0 where
  pub did : Answered (seen_of before) (seen_of now) (wait_act until ready result)
  pub counts : WaitCounts (seen_of before) (seen_of now) result
  pub exact : now.counts.faults ≡ before.counts.faults
  pub stopped : CountsStop before.counts.stops now.counts.stops result

-- of the ports nothing has changed but where the made ones lie, and how many there is room for
pub record KeepsPorts {A B C D E : Type 0} (before now : Ports A B C D E) : Type 0 where
  pub streams : SameStreams before.table now.table
  pub made : SameValues before.table.made now.table.made
  pub maker : now.maker ≡ before.maker
  pub parents : now.parents.items ≡ before.parents.items

-- what one poll made of a turn: which halves it names, by the keys that the poller named and by what hinted before, and until
-- when it asked the poller to wait; it was asked once, and whether it said stop is what it tells, where it tells that
pub record PollsSo (told : PortId → Option Hint) (places : List PlaceEntry) (ready : List ReadyAt) (entries : List (ℕ × Half)) (named : Option (List (ℕ × Half))) (last : ℕ) (until asked : Option ℕ) (stop : Bool) (stopped : Option Bool) (Once : Type 0) : Type 0 where
  pub keys : IfSome named (λ all. all ≡ entries)
  pub keyed : NamesKeyed entries places ready
  pub hinted : NamesHinting told places ready
  pub only : NamesOnly entries told places ready
  pub waits : PollsUntil told places ready last until asked
  pub idle : WaitsIdle told places until asked
  pub said : IfSome stopped (λ all. all ≡ stop)
  pub once : Once

-- what each place stands on
abbrev pub bases_of : Log → Place → Option Base
bases_of log = base_at log.places.entries

-- the table of places: how each stands, on what, and which of its halves are disarmed; none where it is free
abbrev pub row_of : Log → Place → Option PlaceEntry
row_of log = entry_at log.places.entries

-- the half of this place was answered and is marked so, or nothing was answered; every other row is as it was
abbrev pub Marked : Place → Half → Option Bool → (Place → Option PlaceEntry) → (Place → Option PlaceEntry) → Type 0
Marked place half None before after = (p : Place) → after p ≡ before p
Marked place half (Some disarmed) before after = SetsEntry place (option_map (with_half half disarmed) (before place)) before after

-- how a read marks its half; not at all where there was no memory
abbrev pub read_mark : ReadAnswer → Option Bool
read_mark (reads.Bytes n) = Some false
read_mark reads.Empty = Some false
read_mark reads.End = Some false
read_mark reads.NotYet = Some true
read_mark reads.Failed = Some false
read_mark reads.Memory = None

-- a write
abbrev pub write_mark : WriteAnswer → Option Bool
write_mark (writes.Took n) = Some false
write_mark writes.NotYet = Some true
write_mark writes.Failed = Some false
write_mark writes.Memory = None

-- a packet
abbrev pub send_mark : SendAnswer → Option Bool
send_mark sends.Sent = Some false
send_mark sends.NotYet = Some true
send_mark sends.Failed = Some false
send_mark sends.Memory = None

-- whether a shut finished the output; not where there was no memory
abbrev pub shut_ends : Shut → ShutAnswer → Bool
shut_ends how shuts.Done = finishes how
shut_ends how shuts.Failed = finishes how
shut_ends how shuts.Memory = false

-- the call was made on the port of this half of the place, and finished the output there or not; every other port, the
-- maker and the ports that closed places left are as they were
pub record Ends {A B C D E : Type 0} (ends : Bool) (id : Base → PortId) (place : Place) (log : Log) (before now : Ports A B C D E) (Call : PortSeen → PortSeen → Type 0) : Type 0 where
  pub call : IfSome (bases_of log place) (λ base. EndsAt ends (id base) before.table now.table Call)
  pub maker : now.maker ≡ before.maker
  pub parents : now.parents.items ≡ before.parents.items

-- the same of a call that finishes no output
abbrev pub Calls : {A B C D E : Type 0} → (Base → PortId) → Place → Log → Ports A B C D E → Ports A B C D E → (PortSeen → PortSeen → Type 0) → Type 0
Calls id place log before now Call = Ends false id place log before now Call

-- the note was one on standard error; every other port, the maker and the ports that closed places left are as they were
pub record Notes {A B C D E : Type 0} (text : List ℕ) (result : NoteAnswer) (before now : Ports A B C D E) : Type 0 where
  pub call : NotesAs result before.table.errors now.table.errors text
  pub input : now.table.input ≡ before.table.input
  pub output : now.table.output ≡ before.table.output
  pub made : now.table.made ≡ before.table.made
  pub maker : now.maker ≡ before.maker
  pub parents : now.parents.items ≡ before.parents.items

-- the place was shut, or nothing was done where memory was wanted; every other row is as it was
abbrev pub ShutsRow : Place → Shut → ShutAnswer → (Place → Option PlaceEntry) → (Place → Option PlaceEntry) → Type 0
ShutsRow place how shuts.Done before after = SetsEntry place (option_map (shut_down (finishes how)) (before place)) before after
ShutsRow place how shuts.Failed before after = SetsEntry place (option_map (shut_down (finishes how)) (before place)) before after
ShutsRow place how shuts.Memory before after = (p : Place) → after p ≡ before p

-- there is room for one further place on a port of its own, its act and its closing
pub record HasPortRoom {A B C D E : Type 0} (log : Log) (ports : Ports A B C D E) : Type 0 where
  pub acts : HasRoom (length log.places.entries + 2) log.recording
  pub places : 0 < log.places.spare
  pub made : HasVacancy ports.table.made ports.listed
  pub parents : length log.places.entries + 1 + vec_len ports.parents ≤ vec_capacity ports.parents
