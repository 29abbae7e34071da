-- What a session stands for while others act, and while it sleeps.
use Rattle.std.specs.Prelude.{◌≡◌, ℕ, ◌<◌, ◌⊎◌, Bool, false, List, [], ◌∷◌, Option, Some, None}
use Rattle.relay_model.specs.{Config, Act, Why, Place, Listed, now, turns, memory_said, numbers, cause, closed_why, IsForeign, is_common}
use Rattle.relay_model.specs.declared.acts.Act.TheVariants.{Turn, Closed}
use Rattle.relay_model.specs.declared.acts.Why.TheVariants as whys
use Rattle.relay_laws.specs.{own_entries, Since, RestsUntil}
use Rattle.relay_session.specs.{State, Session, Ground, Sleeps, Stands, Hears}

-- an act of others leaves what a state says of the history
abbrev pub GroundIsKept : Type 0
GroundIsKept =
    (c : Config) (act : Act) (past : List Act) (s : ℕ) (st : State) → s < numbers c past → IsForeign c s act → is_common c act ≡ false → Ground c past s st →
    Ground c (act ∷ past) s st

-- turns are left, or what ends the session is its cause in the history: no session ends since the turns are used up
abbrev pub EndsByCause : Config → ℕ → List Act → ℕ → Session → Type 0
EndsByCause c n past s x = (turns past < n) ⊎ (x.state.ending ≡ cause c past s)

-- and what a session stands for
abbrev pub StandsIsKept : Type 0
StandsIsKept =
    (c : Config) (n : ℕ) (act : Act) (past : List Act) (s : ℕ) (x : Session) → s < numbers c past → EndsByCause c n past s x → IsForeign c s act → is_common c act ≡ false →
    Stands c n past s x → Stands c n (act ∷ past) s x

-- a session that hears a turn as if it had just gone to sleep hears it as it came
abbrev pub WokenHears : Type 0
WokenHears =
    (c : Config) (n : ℕ) (s : ℕ) (until : Option ℕ) (slept past : List Act) (wait other : Option ℕ) (at : ℕ) (ready told : Listed) (stop : Bool) (x : Session) →
    s < numbers c slept → Since c s until slept past → own_entries c s ready.entries ≡ own_entries c s told.entries →
    Hears c n (Turn other at told stop ∷ slept) s x → Hears c n (Turn wait at ready stop ∷ past) s x

-- so does one that the turn stops
abbrev pub WokenStands : Type 0
WokenStands =
    (c : Config) (n : ℕ) (s : ℕ) (until : Option ℕ) (slept past : List Act) (wait other : Option ℕ) (at : ℕ) (ready told : Listed) (stop : Bool) (x : Session) →
    s < numbers c slept → Since c s until slept past → own_entries c s ready.entries ≡ own_entries c s told.entries →
    x.state.ending ≡ cause c (Turn other at told stop ∷ slept) s → Stands c n (Turn other at told stop ∷ slept) s x → Stands c n (Turn wait at ready stop ∷ past) s x

-- a session that slept through a turn is brought to now by a turn that names nothing of it
abbrev pub WokenLate : Type 0
WokenLate =
    (c : Config) (n : ℕ) (s : ℕ) (until : Option ℕ) (slept past : List Act) (other : Option ℕ) (told : Listed) (x : Session) →
    s < numbers c slept → Since c s until slept past → turns slept < turns past → own_entries c s told.entries ≡ [] →
    Hears c n (Turn other (now past) told false ∷ slept) s x → Hears c n past s x

-- a session that was cut for a reason stands through a closing elsewhere that makes this reason its cause
abbrev pub EndSpreads : Type 0
EndSpreads =
    (c : Config) (n : ℕ) (past : List Act) (s : ℕ) (q : Place) (why : Why) (x : Session) → s < numbers c past → IsForeign c s (Closed q why) → x.state.ending ≡ Some why →
    cause c (Closed q why ∷ past) s ≡ Some why → Stands c n past s x → Stands c n (Closed q why ∷ past) s x

-- the first closing for a stop, and for want of memory, is the cause of each session that nothing else has ended
abbrev pub StopIsCause : Type 0
StopIsCause =
    (c : Config) (past : List Act) (s : ℕ) (q : Place) → IsForeign c s (Closed q whys.Stopped) → closed_why c past s ≡ None → memory_said past ≡ false →
    cause c (Closed q whys.Stopped ∷ past) s ≡ Some whys.Stopped

-- the first closing for want of memory is the cause of each session that nothing else has ended
abbrev pub MemoryIsCause : Type 0
MemoryIsCause =
    (c : Config) (past : List Act) (s : ℕ) (q : Place) → IsForeign c s (Closed q whys.Memory) → closed_why c past s ≡ None →
    cause c (Closed q whys.Memory ∷ past) s ≡ Some whys.Memory

-- a session that wishes to sleep, and not just until now, rests until that moment
abbrev pub SleepsRest : Type 0
SleepsRest = (c : Config) (past : List Act) (s : ℕ) (until : Option ℕ) → Sleeps c past s until → (until ≡ Some (now past) → ⊥) → RestsUntil c past s until
