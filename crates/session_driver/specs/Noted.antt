-- What a step makes of a world, of the session that it is for and of its dumper, where what is read is noted at once.
use Rattle.std.specs.Prelude.{◌≡◌, ◌≢◌, ℕ, ◌<◌, ◌≤◌, Bool, true, false, List, length, take, None, Some}
use Rattle.relay_model.specs.{Act, Place, Config, is_of, way_from, dump_of, standing, held, closed_why, owed, Legal, reads_bytes}
use Rattle.relay_model.specs.declared.acts.Act.TheVariants.{Read, Closed, Note, NoteFault}
use Rattle.relay_model.specs.declared.acts.Why.TheVariants as whys
use Rattle.relay_model.specs.declared.commands.Dump.TheVariants as dumps
use Rattle.world_trait.specs.{Answered, DidNothing, Rose}
use Rattle.relay_session.specs.{Session, Stands, wish_of, left_of, has_ended}
use Rattle.relay_session.specs.declared.wishes.Wish.TheVariants as wishes
use Rattle.world_trait.specs.Seen.{Seen, Waitless}
use Rattle.session_driver.specs.Steps.{Acts, IsFaultless, Meets, StepIs}
use Rattle.session_driver.specs.Dumpers.{Counts, counted_at}
use Rattle.session_driver.specs.declared.dumpers.Dumper.{Dumper}
use Rattle.session_driver.specs.declared.stepped.Stepped.{Stepped}
use Rattle.session_driver.specs.declared.stepped.Stepped.TheVariants as steps
use Rattle.session_driver.specs.declared.stepped.Fetched.{Fetched}
use Rattle.session_driver.specs.declared.stepped.Fetched.TheVariants as fetches

-- the session stands for such a history after which no dump is owed
pub record MeetsUnowed (c : Config) (now : Seen) (session : Session) : Type 0 where
  pub meets : Meets c now session
  pub unowed : owed c meets.past ≡ None

-- the session stands for a legal history after which this place of its own is held, and none was closed that ends it
pub record MeetsHeld (c : Config) (now : Seen) (session : Session) : Type 0 where
  pub n : ℕ
  pub past : List Act
  pub s : ℕ
  pub at : Place
  pub legal : Legal c n past
  pub stands : Stands c n past s session
  pub unclosed : closed_why c past s ≡ None
  pub own : is_of c s at ≡ true
  pub is_held : held past at ≡ true
  pub holds : (p : Place) → now.held p ≡ standing past p

-- a step as it may be, and its act reads no bytes
abbrev pub UnreadIs : Config → Seen → Seen → Session → Session → Stepped → Type 0
UnreadIs c old new before after steps.Acted = (act : Act) × (reads_bytes act ≡ false) × IsFaultless c act × Acts c old new before after act
UnreadIs c old new before after stepped = StepIs c old new before after stepped

-- the world read these bytes
pub record Came (old new : Seen) (p : Place) (bytes : List ℕ) : Type 0 where
  pub did : Answered old new (Some (Read p bytes))
  pub rose : Rose old.faults new.faults false
  pub waitless : Waitless old new

-- what an asking for bytes was: bytes at the front of what they were read into, of which the session hasn't heard yet, or
-- another step
abbrev pub AskIs : Config → Seen → Seen → Session → Session → Place → List ℕ → Fetched → Type 0
AskIs c old new before after p into (fetches.Bytes n) = (0 < n) × (n ≤ length into) × (after ≡ before) × Came old new p (take n into)
AskIs c old new before after p into (fetches.Other stepped) = UnreadIs c old new before after stepped

-- what a wished read was: bytes at the front of what they were read into, or another step
abbrev pub FetchIs : Config → Seen → Seen → Session → Session → Place → List ℕ → Fetched → Type 0
FetchIs c old new before after p into (fetches.Bytes n) = (0 < n) × (n ≤ length into) × Acts c old new before after (Read p (take n into))
FetchIs c old new before after p into (fetches.Other stepped) = UnreadIs c old new before after stepped

-- the note of a text, which was written or not
abbrev pub note_of : Bool → List ℕ → Act
note_of false text = Note text
note_of true text = NoteFault text

-- the dump of bytes that were just read at this place was noted
pub record Notes (c : Config) (old new : Seen) (dumper : Dumper) (p : Place) (bytes : List ℕ) : Type 0 where
  pub failed : Bool
  pub did : Answered old new (Some (note_of failed (dump_of c.dump (way_from p.side) (counted_at dumper p.side) bytes)))
  pub rose : Rose old.faults new.faults failed
  pub waitless : Waitless old new

-- nothing was done
pub record Untouched (old new : Seen) : Type 0 where
  pub did : DidNothing old new
  pub rose : Rose old.faults new.faults false
  pub waitless : Waitless old new

-- it was noted, or there was no memory for it and nothing was done
abbrev pub NoteIs : Config → Seen → Seen → Dumper → Place → List ℕ → Bool → Type 0
NoteIs c old new dumper p bytes true = Notes c old new dumper p bytes
NoteIs c old new dumper p bytes false = Untouched old new

-- the session was cut for want of memory, and closed the first thing that it held
pub record GivesUp (c : Config) (old new : Seen) (before after : Session) : Type 0 where
  pub cut : Session
  pub thing : Place
  pub stands : (n : ℕ) (past : List Act) (s : ℕ) → Stands c n past s before → closed_why c past s ≡ None → Stands c n past s cut
  pub wish : wish_of cut ≡ wishes.Close thing whys.Memory
  pub left : left_of cut ≡ left_of before
  pub over : has_ended cut ≡ true
  pub closes : Acts c old new cut after (Closed thing whys.Memory)

-- bytes were read that the command dumps, and noted next
pub record ReadNoted (c : Config) (old new : Seen) (before after : Session) (dumper dumper' : Dumper) : Type 0 where
  pub dumped : c.dump ≢ dumps.Off
  pub place : Place
  pub bytes : List ℕ
  pub between : Seen
  pub going : has_ended before ≡ false
  pub reads : Acts c old between before after (Read place bytes)
  pub notes : Notes c between new dumper place bytes
  pub counts : Counts place.side (length bytes) dumper dumper'

-- bytes were read, there was no memory to note them, and the session gave up
pub record ReadUnnoted (c : Config) (old new : Seen) (before after : Session) (dumper dumper' : Dumper) : Type 0 where
  pub place : Place
  pub bytes : List ℕ
  pub between : Seen
  pub late : Seen
  pub heard : Session
  pub going : has_ended before ≡ false
  pub reads : Acts c old between before heard (Read place bytes)
  pub nothing : Untouched between late
  pub gives_up : GivesUp c late new heard after
  pub counts : Counts place.side (length bytes) dumper dumper'

-- what one step was where what is read is dumped
pub data NotedStep (c : Config) (old new : Seen) (before after : Session) (dumper dumper' : Dumper) (stepped : Stepped) : Type 0 where
  undumped : c.dump ≡ dumps.Off → StepIs c old new before after stepped → NotedStep c old new before after dumper dumper' stepped
  unread : dumper' ≡ dumper → UnreadIs c old new before after stepped → NotedStep c old new before after dumper dumper' stepped
  noted : stepped ≡ steps.Acted → ReadNoted c old new before after dumper dumper' → NotedStep c old new before after dumper dumper' stepped
  unnoted : stepped ≡ steps.Memory → ReadUnnoted c old new before after dumper dumper' → NotedStep c old new before after dumper dumper' stepped
