-- What each call of a scripted world answers by its script, and what it leaves of the script. After `Memory` the
-- script is as it was.
use Rattle.std.specs.Prelude.{◌≡◌, ℕ, Bool, true, false, List, Option, None, Some, take}
use Rattle.relay_model.specs.{ChildEnd, Place, ReadyAt}
use Rattle.world_trait.specs.{Turned, OpenAnswer, ListenAnswer, AcceptAnswer, ReadAnswer, WriteAnswer, SendAnswer, ShutAnswer, ReapAnswer}
use Rattle.world_trait.specs.declared.answers.Turned.TheVariants as turns
use Rattle.world_trait.specs.declared.answers.OpenAnswer.TheVariants as opens
use Rattle.world_trait.specs.declared.answers.ListenAnswer.TheVariants as listens
use Rattle.world_trait.specs.declared.answers.AcceptAnswer.TheVariants as accepts
use Rattle.world_trait.specs.declared.answers.ReadAnswer.TheVariants as reads
use Rattle.world_trait.specs.declared.answers.WriteAnswer.TheVariants as writes
use Rattle.world_trait.specs.declared.answers.SendAnswer.TheVariants as sends
use Rattle.world_trait.specs.declared.answers.ShutAnswer.TheVariants as shuts
use Rattle.world_trait.specs.declared.answers.ReapAnswer.TheVariants as reaps
use Rattle.scripted_world.specs.declared.accepting.Coming.{Coming}
use Rattle.scripted_world.specs.declared.accepting.Coming.TheVariants as coming
use Rattle.scripted_world.specs.declared.items.OpenItem.{OpenItem}
use Rattle.scripted_world.specs.declared.items.OpenItem.TheVariants as items
use Rattle.scripted_world.specs.declared.looking.WatchKind.TheVariants as watches
use Rattle.scripted_world.specs.declared.reading.Given.{Given}
use Rattle.scripted_world.specs.declared.reading.Given.TheVariants as given
use Rattle.scripted_world.specs.declared.writing.TakenNow.{TakenNow}
use Rattle.scripted_world.specs.declared.writing.TakenNow.TheVariants as taken
use Rattle.scripted_world.specs.declared.script.Script.{Script}
use Rattle.scripted_world.specs.Lines.{next_of, used_up}
use Rattle.scripted_world.specs.Looks.{elsewhere, looked_after, unnamed}
use Rattle.scripted_world.specs.Marks.{shut_fails}
use Rattle.scripted_world.specs.Peers.{peer_given, peers_left}
use Rattle.scripted_world.specs.Reads.{GivesBytes, next_bytes, read_given, reads_left}
use Rattle.scripted_world.specs.Scripts.{at_of, is_failing, is_stop, looked_opening, opening, ready_ones}
use Rattle.scripted_world.specs.Writes.{write_taken, writes_left}

-- ---- reads

-- the script gives nothing yet
abbrev pub gives_nothing_yet : Given → Bool
gives_nothing_yet (given.Bytes n) = false
gives_nothing_yet given.Empty = false
gives_nothing_yet given.End = false
gives_nothing_yet given.NotYet = true
gives_nothing_yet given.Fault = false

-- a read was given this by the next item of its place
pub record ReadBy (old new : Script) (place : Place) (now room : ℕ) (into : List ℕ) (what : Given) : Type 0 where
  pub answer : what ≡ read_given (next_of old.reads place) now room
  pub bytes : GivesBytes what into (next_bytes (next_of old.reads place))
  pub left : new ≡ record old { reads = reads_left what old.reads place; looked = looked_after (gives_nothing_yet what) old.looked place watches.Read }

-- a read answered what its script says, and left of it what it says
abbrev pub ReadScripted : Script → Script → Place → ℕ → ℕ → List ℕ → ReadAnswer → Type 0
ReadScripted old new place now room into (reads.Bytes n) = ReadBy old new place now room into (given.Bytes n)
ReadScripted old new place now room into reads.Empty = ReadBy old new place now room into given.Empty
ReadScripted old new place now room into reads.End = ReadBy old new place now room into given.End
ReadScripted old new place now room into reads.NotYet = ReadBy old new place now room into given.NotYet
ReadScripted old new place now room into reads.Failed = ReadBy old new place now room into given.Fault
ReadScripted old new place now room into reads.Memory = new ≡ old

-- ---- writes

-- the script takes nothing yet
abbrev pub takes_nothing_yet : TakenNow → Bool
takes_nothing_yet (taken.Upto n) = false
takes_nothing_yet taken.NotYet = true
takes_nothing_yet taken.Fault = false

-- this became of a write by the next item of its place
pub record WriteBy (old new : Script) (place : Place) (now count : ℕ) (what : TakenNow) : Type 0 where
  pub answer : what ≡ write_taken (next_of old.writes place) now count
  pub left : new ≡ record old { writes = writes_left old.writes place now; looked = looked_after (takes_nothing_yet what) old.looked place watches.Write }

-- a write answered what its script says, and left of it what it says
abbrev pub WriteScripted : Script → Script → Place → ℕ → ℕ → WriteAnswer → Type 0
WriteScripted old new place now count (writes.Took n) = WriteBy old new place now count (taken.Upto n)
WriteScripted old new place now count writes.NotYet = WriteBy old new place now count taken.NotYet
WriteScripted old new place now count writes.Failed = WriteBy old new place now count taken.Fault
WriteScripted old new place now count writes.Memory = new ≡ old

-- where some bytes would be taken, a packet is taken whole
abbrev pub send_answer : TakenNow → SendAnswer
send_answer (taken.Upto n) = sends.Sent
send_answer taken.NotYet = sends.NotYet
send_answer taken.Fault = sends.Failed

-- this became of a packet, which uses an item as a write does
pub record SendBy (old new : Script) (place : Place) (now count : ℕ) (later : Bool) (what : SendAnswer) : Type 0 where
  pub answer : what ≡ send_answer (write_taken (next_of old.writes place) now count)
  pub left : new ≡ record old { writes = writes_left old.writes place now; looked = looked_after later old.looked place watches.Write }

-- a packet answered what its script says, and left of it what it says
abbrev pub SendScripted : Script → Script → Place → ℕ → ℕ → SendAnswer → Type 0
SendScripted old new place now count sends.Sent = SendBy old new place now count false sends.Sent
SendScripted old new place now count sends.NotYet = SendBy old new place now count true sends.NotYet
SendScripted old new place now count sends.Failed = SendBy old new place now count false sends.Failed
SendScripted old new place now count sends.Memory = new ≡ old

-- ---- openings and listenings

-- this became of an opening or a settling by the next item of its place; one that is under way is looked at by the
-- halves that the place has
pub record OpenBy (old new : Script) (place : Place) (what : OpenItem) : Type 0 where
  pub answer : what ≡ opening (next_of old.opens place)
  pub left : new ≡ record old { opens = used_up old.opens place; looked = looked_opening what old.looked place }

-- an opening answered what its script says, and left of it what it says
abbrev pub OpenScripted : Script → Script → Place → OpenAnswer → Type 0
OpenScripted old new place opens.Opened = OpenBy old new place items.Opens
OpenScripted old new place opens.Later = OpenBy old new place items.Later
OpenScripted old new place opens.Failed = OpenBy old new place items.Fails
OpenScripted old new place opens.Memory = new ≡ old

-- whether a listening fails is as the next item of its door says
pub record ListenBy (old new : Script) (door : Place) (fails : Bool) : Type 0 where
  pub answer : fails ≡ is_failing (opening (next_of old.opens door))
  pub left : new ≡ record old { opens = used_up old.opens door }

-- a listening answered what its script says, and left of it what it says
abbrev pub ListenScripted : Script → Script → Place → ListenAnswer → Type 0
ListenScripted old new door listens.Listening = ListenBy old new door false
ListenScripted old new door listens.Failed = ListenBy old new door true
ListenScripted old new door listens.Memory = new ≡ old

-- ---- peers

-- the script brings no peer
abbrev pub is_no_peer : Coming → Bool
is_no_peer (coming.Comes peer) = false
is_no_peer coming.NoPeer = true
is_no_peer coming.Fault = false

-- an accepting was given this by the next item of its door
pub record AcceptBy (old new : Script) (door : Place) (now : ℕ) (what : Coming) : Type 0 where
  pub answer : what ≡ peer_given (next_of old.peers door) now
  pub left : new ≡ record old { peers = peers_left what old.peers door; looked = looked_after (is_no_peer what) old.looked door watches.Peer }

-- an accepting answered what its script says, and left of it what it says
abbrev pub AcceptScripted : Script → Script → Place → ℕ → AcceptAnswer → Type 0
AcceptScripted old new door now (accepts.Accepted peer) = AcceptBy old new door now (coming.Comes peer)
AcceptScripted old new door now accepts.NoPeer = AcceptBy old new door now coming.NoPeer
AcceptScripted old new door now accepts.Failed = AcceptBy old new door now coming.Fault
AcceptScripted old new door now accepts.Memory = new ≡ old

-- ---- shuts, closings and reapings

-- whether the shut fails is as the script says, and it uses nothing up
pub record ShutBy (old new : Script) (place : Place) (fails : Bool) : Type 0 where
  pub answer : fails ≡ shut_fails old.shut_faults place
  pub left : new ≡ old

-- a shut answered what its script says, and left of it what it says
abbrev pub ShutScripted : Script → Script → Place → ShutAnswer → Type 0
ShutScripted old new place shuts.Done = ShutBy old new place false
ShutScripted old new place shuts.Failed = ShutBy old new place true
ShutScripted old new place shuts.Memory = new ≡ old

-- nothing of what was closed is looked at any longer
abbrev pub CloseScripted : Script → Script → Place → Type 0
CloseScripted old new place = new ≡ record old { looked = elsewhere old.looked place }

-- what a reaping answers by the next end of its place
abbrev pub reap_given : Option ChildEnd → ReapAnswer
reap_given None = reaps.NoChild
reap_given (Some end) = reaps.Reaped end

-- a reaping answered the next item, and used it up
pub record ReapBy (old new : Script) (place : Place) (what : ReapAnswer) : Type 0 where
  pub answer : what ≡ reap_given (next_of old.reaps place)
  pub left : new ≡ record old { reaps = used_up old.reaps place }

-- a reaping answered what its script says, and left of it what it says
abbrev pub ReapScripted : Script → Script → Place → ReapAnswer → Type 0
ReapScripted old new place (reaps.Reaped end) = ReapBy old new place (reaps.Reaped end)
ReapScripted old new place reaps.NoChild = ReapBy old new place reaps.NoChild
ReapScripted old new place reaps.Memory = new ≡ old

-- ---- waits

-- a turn ends at the moment that the script and `until` say, answers a stop where they say so, and names what is looked
-- at and ready then, up to 256; that isn't looked at any longer
pub record TurnBy (old new : Script) (until : Option ℕ) (clock at : ℕ) (stop : Bool) (ready : List ReadyAt) : Type 0 where
  pub at_is : at ≡ at_of old until clock
  pub stop_is : stop ≡ is_stop old until at
  pub ready_is : ready ≡ take 256 (ready_ones old at old.looked)
  pub left : new ≡ record old { looked = unnamed ready old.looked }

-- a wait answered what its script says, and left of it what it says
abbrev pub TurnScripted : Script → Script → Option ℕ → ℕ → List ReadyAt → Turned → Type 0
TurnScripted old new until clock ready (turns.Turned at stop) = TurnBy old new until clock at stop ready
TurnScripted old new until clock ready turns.Memory = new ≡ old
