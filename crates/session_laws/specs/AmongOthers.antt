-- The laws of a loop's sessions, as statements.
use Rattle.std.specs.Prelude.{◌≡◌, ℕ, ◌<◌, ◌≤◌, Bool, true, false, List, [], ◌∷◌, Option, Some, None}
use Rattle.relay_model.specs.{Config, Place, ReadyAt, Why, Act, Listed, has_fork, program_door, now, turns, memory_said, stop_said, cause, closed_why}
use Rattle.relay_model.specs.{SessionRests, IsForeign, is_common}
use Rattle.relay_model.specs.declared.acts.Why.TheVariants as whys
use Rattle.relay_model.specs.declared.acts.Act.TheVariants.{Turn, AcceptFailed, Closed}
use Rattle.session_direction.specs.{listed}
use Rattle.relay_laws.specs.{own_entries, IsQuiet}
use Rattle.relay_session.specs.{Session, session_until, Stands, Hears, IsGrounded, Leaver, wish_of}
use Rattle.relay_session.specs.declared.wishes.Wish.TheVariants as wishes
use Rattle.session_laws.specs.SessionSets.{Sleeper, Waker, Woke, IsSaid, MaySay}

-- ---- sleep

-- a session that wishes to sleep waits
abbrev pub FallsAsleep : Type 0
FallsAsleep = (c : Config) (n : ℕ) (past : List Act) (s : ℕ) (until : Option ℕ) (x : Session) → Stands c n past s x → wish_of x ≡ wishes.Sleep until → Sleeper c n past s until (turns past) x

-- it sleeps on while others act
abbrev pub SleepsThroughActs : Type 0
SleepsThroughActs =
    (c : Config) (n : ℕ) (act : Act) (past : List Act) (s : ℕ) (until : Option ℕ) (turn : ℕ) (x : Session) → IsForeign c s act → is_common c act ≡ false → Sleeper c n past s until turn x →
    Sleeper c n (act ∷ past) s until turn x

-- and through turns that say nothing to it
abbrev pub SleepsThroughTurns : Type 0
SleepsThroughTurns =
    (c : Config) (n : ℕ) (wait : Option ℕ) (at : ℕ) (ready : Listed) (stop : Bool) (past : List Act) (s : ℕ) (until : Option ℕ) (turn : ℕ) (x : Session) →
    IsQuiet c s until past at ready.entries stop → Sleeper c n past s until turn x → Sleeper c n (Turn wait at ready stop ∷ past) s until turn x

-- its part of the whole rests, and waits until that moment
abbrev pub SleepersRest : Type 0
SleepersRest =
    (c : Config) (n : ℕ) (past : List Act) (s : ℕ) (until : Option ℕ) (turn : ℕ) (x : Session) → Sleeper c n past s until turn x →
    SessionRests c past s × (session_until c past s ≡ until)

-- the turn that wakes it is heard as it came
abbrev pub SleepersWake : Type 0
SleepersWake =
    (c : Config) (n : ℕ) (wait : Option ℕ) (at : ℕ) (past : List Act) (s : ℕ) (until : Option ℕ) (turn : ℕ) (old new : Session) → Sleeper c n past s until turn old → Woke c n s at old new →
    Hears c n (Turn wait at (listed []) false ∷ past) s new

-- what a turn names of others says nothing to a session
abbrev pub NamesOfOthersPass : Type 0
NamesOfOthersPass =
    (c : Config) (n : ℕ) (wait : Option ℕ) (at : ℕ) (names more : List ReadyAt) (past : List Act) (s : ℕ) (x : Session) → own_entries c s more ≡ own_entries c s names →
    Hears c n (Turn wait at (listed names) false ∷ past) s x → Hears c n (Turn wait at (listed more) false ∷ past) s x

-- ---- awake

-- a session that has heard a turn is awake
abbrev pub HearersAreAwake : Type 0
HearersAreAwake = (c : Config) (n : ℕ) (past : List Act) (s : ℕ) (x : Session) → Hears c n past s x → Waker c n past s x

-- one that slept through a turn is brought to now by one more that names nothing
abbrev pub LateSleepersWake : Type 0
LateSleepersWake =
    (c : Config) (n : ℕ) (past : List Act) (s : ℕ) (until : Option ℕ) (turn : ℕ) (old new : Session) → Sleeper c n past s until turn old → turn < turns past → Woke c n s (now past) old new →
    Waker c n past s new

-- one that slept through none is awake as it is
abbrev pub EarlySleepersWake : Type 0
EarlySleepersWake = (c : Config) (n : ℕ) (past : List Act) (s : ℕ) (until : Option ℕ) (turn : ℕ) (x : Session) → Sleeper c n past s until turn x → turns past ≤ turn → Waker c n past s x

-- acts of others leave it awake
abbrev pub WakersStay : Type 0
WakersStay = (c : Config) (n : ℕ) (act : Act) (past : List Act) (s : ℕ) (x : Session) → IsForeign c s act → is_common c act ≡ false → Waker c n past s x → Waker c n (act ∷ past) s x

-- a failed accepting at the program door is the cause of each that is awake, and leaves all else of it
abbrev pub FailedAcceptEndsAll : Type 0
FailedAcceptEndsAll =
    (c : Config) (n : ℕ) (past : List Act) (s : ℕ) (x : Session) → has_fork c ≡ true → memory_said past ≡ false → stop_said past ≡ false → Waker c n past s x →
    IsGrounded c (AcceptFailed program_door ∷ past) s x × (cause c (AcceptFailed program_door ∷ past) s ≡ Some whys.AcceptFailed) × (closed_why c (AcceptFailed program_door ∷ past) s ≡ None)

-- ---- leaving

-- a closing elsewhere for the same reason leaves those that were cut for it
abbrev pub ClosingsLeaveLeavers : Type 0
ClosingsLeaveLeavers =
    (c : Config) (n : ℕ) (past : List Act) (s : ℕ) (q : Place) (why : Why) (x : Session) → IsForeign c s (Closed q why) → MaySay why past → Leaver c n past s why x →
    Leaver c n (Closed q why ∷ past) s why x

-- so do other acts of others, once one was made
abbrev pub ActsLeaveLeavers : Type 0
ActsLeaveLeavers =
    (c : Config) (n : ℕ) (act : Act) (past : List Act) (s : ℕ) (why : Why) (x : Session) → IsForeign c s act → is_common c act ≡ false → IsSaid why past → Leaver c n past s why x →
    Leaver c n (act ∷ past) s why x
