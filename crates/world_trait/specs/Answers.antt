-- What the answers of a world mean: the act that each stands for, what that act does to what the world tells and
-- holds, and how its counts rise. `Memory` stands for no act: then nothing was done.
use Rattle.std.specs.Prelude.{◌≡◌, ◌≤◌, ◌<◌, ◌+◌, ◌^◌, ◌-◌, ℕ, Bool, true, false, List, [], ◌∷◌, Option, Some, None, take, min, option_map, is_some, ⊤}
use Rattle.relay_model.specs.{Act, Shut as Shutting, Why, Place, ReadyAt, Hold, hold_after, is_free, reaped_since, Listed, copied_list}
use Rattle.relay_model.specs.declared.acts.Act.TheVariants.{Turn, Opened, OpenLater, OpenFailed, Listening, ListenFailed, Accepted, NoPeer, AcceptFailed, Read, ReadEmpty, ReadEnd, ReadNotYet, ReadFault, Wrote, WriteNotYet, WriteFault, Shut, ShutFault, Closed, Reaped, Note, NoteFault}
use Rattle.relay_model.specs.Journals.{History, Asking}
use Rattle.world_trait.specs.Recordings.{with_act, with_asking}
use Rattle.world_trait.specs.Seen.{Seen, Waitless}
use Rattle.world_trait.specs.declared.answers.Turned.{Turned}
use Rattle.world_trait.specs.declared.answers.Turned.TheVariants as turns
use Rattle.world_trait.specs.declared.answers.OpenAnswer.{OpenAnswer}
use Rattle.world_trait.specs.declared.answers.OpenAnswer.TheVariants as opens
use Rattle.world_trait.specs.declared.answers.ListenAnswer.{ListenAnswer}
use Rattle.world_trait.specs.declared.answers.ListenAnswer.TheVariants as listens
use Rattle.world_trait.specs.declared.answers.AcceptAnswer.{AcceptAnswer}
use Rattle.world_trait.specs.declared.answers.AcceptAnswer.TheVariants as accepts
use Rattle.world_trait.specs.declared.answers.ReadAnswer.{ReadAnswer}
use Rattle.world_trait.specs.declared.answers.ReadAnswer.TheVariants as reads
use Rattle.world_trait.specs.declared.answers.WriteAnswer.{WriteAnswer}
use Rattle.world_trait.specs.declared.answers.WriteAnswer.TheVariants as writes
use Rattle.world_trait.specs.declared.answers.SendAnswer.{SendAnswer}
use Rattle.world_trait.specs.declared.answers.SendAnswer.TheVariants as sends
use Rattle.world_trait.specs.declared.answers.ShutAnswer.{ShutAnswer}
use Rattle.world_trait.specs.declared.answers.ShutAnswer.TheVariants as shuts
use Rattle.world_trait.specs.declared.answers.NoteAnswer.{NoteAnswer}
use Rattle.world_trait.specs.declared.answers.NoteAnswer.TheVariants as notes
use Rattle.world_trait.specs.declared.answers.ReapAnswer.{ReapAnswer}
use Rattle.world_trait.specs.declared.answers.ReapAnswer.TheVariants as reaps

-- the act of a wait and its answer
abbrev pub wait_act : Option ℕ → Listed → Turned → Option Act
wait_act until ready (turns.Turned at stop) = Some (Turn until at (copied_list ready) stop)
wait_act until ready turns.Memory = None

-- the act of an opening and its answer
abbrev pub open_act : Place → OpenAnswer → Option Act
open_act place opens.Opened = Some (Opened place)
open_act place opens.Later = Some (OpenLater place)
open_act place opens.Failed = Some (OpenFailed place)
open_act place opens.Memory = None

-- the act of a listening and its answer
abbrev pub listen_act : Place → ListenAnswer → Option Act
listen_act door listens.Listening = Some (Listening door)
listen_act door listens.Failed = Some (ListenFailed door)
listen_act door listens.Memory = None

-- the act of an accepting and its answer
abbrev pub accept_act : Place → Place → AcceptAnswer → Option Act
accept_act door place (accepts.Accepted peer) = Some (Accepted place peer)
accept_act door place accepts.NoPeer = Some (NoPeer door)
accept_act door place accepts.Failed = Some (AcceptFailed door)
accept_act door place accepts.Memory = None

-- the act of a read and its answer
abbrev pub read_act : Place → List ℕ → ReadAnswer → Option Act
read_act place into (reads.Bytes n) = Some (Read place (take n into))
read_act place into reads.Empty = Some (ReadEmpty place)
read_act place into reads.End = Some (ReadEnd place)
read_act place into reads.NotYet = Some (ReadNotYet place)
read_act place into reads.Failed = Some (ReadFault place)
read_act place into reads.Memory = None

-- the act of a write and its answer
abbrev pub write_act : Place → List ℕ → WriteAnswer → Option Act
write_act place bytes (writes.Took n) = Some (Wrote place (take n bytes))
write_act place bytes writes.NotYet = Some (WriteNotYet place)
write_act place bytes writes.Failed = Some (WriteFault place)
write_act place bytes writes.Memory = None

-- the act of a packet and its answer
abbrev pub send_act : Place → List ℕ → SendAnswer → Option Act
send_act place bytes sends.Sent = Some (Wrote place bytes)
send_act place bytes sends.NotYet = Some (WriteNotYet place)
send_act place bytes sends.Failed = Some (WriteFault place)
send_act place bytes sends.Memory = None

-- the act of a shut and its answer
abbrev pub shut_act : Place → Shutting → ShutAnswer → Option Act
shut_act place how shuts.Done = Some (Shut place how)
shut_act place how shuts.Failed = Some (ShutFault place how)
shut_act place how shuts.Memory = None

-- the act of a closing
abbrev pub close_act : Place → Why → Option Act
close_act place why = Some (Closed place why)

-- the act of a note and its answer
abbrev pub note_act : List ℕ → NoteAnswer → Option Act
note_act text notes.Noted = Some (Note text)
note_act text notes.Failed = Some (NoteFault text)
note_act text notes.Memory = None

-- that there is no child stands for no act
abbrev pub reap_act : Place → ReapAnswer → Option Act
reap_act place (reaps.Reaped end) = Some (Reaped place end)
reap_act place reaps.NoChild = None
reap_act place reaps.Memory = None

-- the act is told, where the world tells its acts, and changes how its place stands
pub record Did (old new : Seen) (act : Act) : Type 0 where
  pub told : new.told ≡ option_map (with_act act) old.told
  pub held : (p : Place) → new.held p ≡ hold_after act p (old.held p)

-- the same, and what was asked is told too
pub record DidAsking (asking : Asking) (old new : Seen) (act : Act) : Type 0 where
  pub told : new.told ≡ option_map (with_asking act asking) old.told
  pub held : (p : Place) → new.held p ≡ hold_after act p (old.held p)

-- the world tells and holds what it did before
pub record DidNothing (old new : Seen) : Type 0 where
  pub told : new.told ≡ old.told
  pub held : (p : Place) → new.held p ≡ old.held p

-- what a call did, by the act of its answer
abbrev pub Answered : Seen → Seen → Option Act → Type 0
Answered old new (Some act) = Did old new act
Answered old new None = DidNothing old new

-- the same of a call that asks for something to be opened
abbrev pub AnsweredAsking : Asking → Seen → Seen → Option Act → Type 0
AnsweredAsking asking old new (Some act) = DidAsking asking old new act
AnsweredAsking asking old new None = DidNothing old new

-- a count never falls, and rises where something failed; it stays at its last value
pub record Rose (before now : ℕ) (failed : Bool) : Type 0 where
  pub later : before ≤ now
  pub rose : failed ≡ true → min (before + 1) (2 ^ 64 - 1) ≤ now

-- a count that is one more where it was raised, and the same where it wasn't; at its last value it stands still
abbrev pub counted : Bool → ℕ → ℕ
counted true n = min (n + 1) (2 ^ 64 - 1)
counted false n = n

-- an answer raises the count of faults where it is a failure and the count of stops where it is a stop, and neither
-- count moves otherwise
pub record RaisesCounts (faults faults' stops stops' : ℕ) (failed stopped : Bool) : Type 0 where
  pub faults_is : faults' ≡ counted failed faults
  pub stops_is : stops' ≡ counted stopped stops

-- whether a turn answered a stop
abbrev pub says_stop : Turned → Bool
says_stop (turns.Turned at stop) = stop
says_stop turns.Memory = false

-- an opening failed
abbrev pub is_open_fault : OpenAnswer → Bool
is_open_fault opens.Opened = false
is_open_fault opens.Later = false
is_open_fault opens.Failed = true
is_open_fault opens.Memory = false

-- a listening failed
abbrev pub is_listen_fault : ListenAnswer → Bool
is_listen_fault listens.Listening = false
is_listen_fault listens.Failed = true
is_listen_fault listens.Memory = false

-- an accepting failed
abbrev pub is_accept_fault : AcceptAnswer → Bool
is_accept_fault (accepts.Accepted peer) = false
is_accept_fault accepts.NoPeer = false
is_accept_fault accepts.Failed = true
is_accept_fault accepts.Memory = false

-- a read failed
abbrev pub is_read_fault : ReadAnswer → Bool
is_read_fault (reads.Bytes n) = false
is_read_fault reads.Empty = false
is_read_fault reads.End = false
is_read_fault reads.NotYet = false
is_read_fault reads.Failed = true
is_read_fault reads.Memory = false

-- a write failed
abbrev pub is_write_fault : WriteAnswer → Bool
is_write_fault (writes.Took n) = false
is_write_fault writes.NotYet = false
is_write_fault writes.Failed = true
is_write_fault writes.Memory = false

-- a packet failed
abbrev pub is_send_fault : SendAnswer → Bool
is_send_fault sends.Sent = false
is_send_fault sends.NotYet = false
is_send_fault sends.Failed = true
is_send_fault sends.Memory = false

-- a shut failed
abbrev pub is_shut_fault : ShutAnswer → Bool
is_shut_fault shuts.Done = false
is_shut_fault shuts.Failed = true
is_shut_fault shuts.Memory = false

-- a note failed
abbrev pub is_note_fault : NoteAnswer → Bool
is_note_fault notes.Noted = false
is_note_fault notes.Failed = true
is_note_fault notes.Memory = false

-- some bytes, and no more than there was room for
abbrev pub ReadFits : ℕ → ReadAnswer → Type 0
ReadFits room (reads.Bytes n) = (0 < n) × (n ≤ room)
ReadFits room reads.Empty = ⊤
ReadFits room reads.End = ⊤
ReadFits room reads.NotYet = ⊤
ReadFits room reads.Failed = ⊤
ReadFits room reads.Memory = ⊤

-- some bytes, and no more than were handed in
abbrev pub WriteFits : ℕ → WriteAnswer → Type 0
WriteFits count (writes.Took n) = (0 < n) × (n ≤ count)
WriteFits count writes.NotYet = ⊤
WriteFits count writes.Failed = ⊤
WriteFits count writes.Memory = ⊤

-- where the history is told, no child of the place was reaped since its last closing
abbrev pub NotReaped : Option History → Place → Type 0
NotReaped None place = ⊤
NotReaped (Some history) place = reaped_since history.acts place ≡ false

-- a turn is counted, its moment is the clock's, and a stop comes only where the count of stops rose
pub record TurnCounts (old new : Seen) (at : ℕ) (stop : Bool) : Type 0 where
  pub waits_is : new.waits ≡ min (old.waits + 1) (2 ^ 64 - 1)
  pub stops_is : Rose old.stops new.stops stop
  pub clock_is : new.clock ≡ at
  pub later : old.clock ≤ at

-- how a wait changes the counts and the clock
abbrev pub WaitCounts : Seen → Seen → Turned → Type 0
WaitCounts old new (turns.Turned at stop) = TurnCounts old new at stop
WaitCounts old new turns.Memory = Waitless old new

-- each of these entries names a place or door that is held
abbrev pub NamesHeld : (Place → Hold) → List ReadyAt → Type 0
NamesHeld held [] = ⊤
NamesHeld held (e ∷ entries) = (is_free (held e.place) ≡ false) × NamesHeld held entries

-- a turn names only what is held; after `Memory` nothing is said of the list
abbrev pub OnlyHeldNamed : (Place → Hold) → List ReadyAt → Turned → Type 0
OnlyHeldNamed held entries (turns.Turned at stop) = NamesHeld held entries
OnlyHeldNamed held entries turns.Memory = ⊤

-- memory is wanted only where a history is told
abbrev pub wants_turn_memory : Turned → Bool
wants_turn_memory (turns.Turned at stop) = false
wants_turn_memory turns.Memory = true

-- a read wanted memory
abbrev pub wants_read_memory : ReadAnswer → Bool
wants_read_memory (reads.Bytes n) = false
wants_read_memory reads.Empty = false
wants_read_memory reads.End = false
wants_read_memory reads.NotYet = false
wants_read_memory reads.Failed = false
wants_read_memory reads.Memory = true

-- a write wanted memory
abbrev pub wants_write_memory : WriteAnswer → Bool
wants_write_memory (writes.Took n) = false
wants_write_memory writes.NotYet = false
wants_write_memory writes.Failed = false
wants_write_memory writes.Memory = true

-- a packet wanted memory
abbrev pub wants_send_memory : SendAnswer → Bool
wants_send_memory sends.Sent = false
wants_send_memory sends.NotYet = false
wants_send_memory sends.Failed = false
wants_send_memory sends.Memory = true

-- a shut wanted memory
abbrev pub wants_shut_memory : ShutAnswer → Bool
wants_shut_memory shuts.Done = false
wants_shut_memory shuts.Failed = false
wants_shut_memory shuts.Memory = true

-- memory is wanted only by a world that keeps its history
abbrev pub OnlyWhereTold : Option History → Bool → Type 0
OnlyWhereTold told wants = wants ≡ true → is_some told ≡ true
