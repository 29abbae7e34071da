-- What the sessions of one loop stand for: those that wait, those that are awake, and those that are to leave.
use Rattle.std.specs.Prelude.{◌≡◌, ℕ, ◌<◌, true, false, List, [], ◌∷◌, Option, None}
use Rattle.relay_model.specs.{Config, Why, Act, turns, memory_said, stop_said, numbers, cause, closed_why}
use Rattle.relay_model.specs.declared.acts.Why.TheVariants as whys
use Rattle.relay_model.specs.declared.acts.Act.TheVariants.{Turn}
use Rattle.session_direction.specs.{listed}
use Rattle.relay_session.specs.declared.wishes.Wish.TheVariants as wishes
use Rattle.relay_session.specs.{Session, Stands, Hears, wish_of, ending_of}
use Rattle.relay_laws.specs.{Since}

-- a session that waits: after so many turns it wished to sleep until this moment, and since then came only acts of
-- others and turns that say nothing to it
pub record Sleeper (c : Config) (n : ℕ) (past : List Act) (s : ℕ) (until : Option ℕ) (turn : ℕ) (x : Session) : Type 0 where
  pub slept : List Act
  pub begun : s < numbers c slept
  pub stands : Stands c n slept s x
  pub wish : wish_of x ≡ wishes.Sleep until
  pub since : Since c s until slept past
  pub turn_is : turns slept ≡ turn

-- a session that is awake: what ends it, if anything, is its cause, and nothing of it was closed for that yet
pub record Waker (c : Config) (n : ℕ) (past : List Act) (s : ℕ) (x : Session) : Type 0 where
  pub stands : Stands c n past s x
  pub ending : ending_of x ≡ cause c past s
  pub unclosed : closed_why c past s ≡ None

-- a wait has returned at this moment that names nothing yet of the session, which heard it
abbrev pub Woke : Config → ℕ → ℕ → ℕ → Session → Session → Type 0
Woke c n s at old new = (past : List Act) (until : Option ℕ) → Stands c n past s old → wish_of old ≡ wishes.Sleep until → Hears c n (Turn until at (listed []) false ∷ past) s new

-- a closing has said that the run ends, for want of memory or for a stop
abbrev pub IsSaid : Why → List Act → Type 0
IsSaid whys.Memory past = memory_said past ≡ true
IsSaid whys.Stopped past = (stop_said past ≡ true) × (memory_said past ≡ false)
IsSaid why past = ⊥

-- a closing may say so next: no closing said before that memory is wanting, where it is a stop
abbrev pub MaySay : Why → List Act → Type 0
MaySay whys.Memory past = Unit {0}
MaySay whys.Stopped past = memory_said past ≡ false
MaySay why past = ⊥
