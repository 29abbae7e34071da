-- Sessions that have to act before the next wait. Laws, as statements.
use Rattle.std.specs.Prelude.{◌≡◌, ℕ, ◌<◌, ◌≤◌, true, false, List, ◌∷◌, Option, Some}
use Rattle.relay_model.specs.{Config, Why, Act, Listed, has_fork, now, live, numbers, cause, SessionRests, IsForeign, is_common}
use Rattle.relay_model.specs.declared.acts.Act.TheVariants.{Turn}
use Rattle.relay_session.specs.{session_until}

-- the session doesn't rest: a call of its own has to be made before a wait is in order
abbrev pub MustAct : Config → List Act → ℕ → Type 0
MustAct c past s = SessionRests c past s → ⊥

-- acts of others leave it so
abbrev pub MustActStays : Type 0
MustActStays = (c : Config) (act : Act) (past : List Act) (s : ℕ) → s < numbers c past → IsForeign c s act → is_common c act ≡ false → MustAct c past s → MustAct c (act ∷ past) s

-- a session that waited until a moment that had come already has to act after a turn in which no time passed
abbrev pub WaitedForNow : Type 0
WaitedForNow =
    (c : Config) (wait : Option ℕ) (ready : Listed) (past : List Act) (s m : ℕ) → session_until c past s ≡ Some m → m ≤ now past → MustAct c (Turn wait (now past) ready false ∷ past) s

-- a session that lives has to act once something has ended it
abbrev pub EndedMustAct : Type 0
EndedMustAct = (c : Config) (past : List Act) (s : ℕ) (why : Why) → has_fork c ≡ true → live c past s ≡ true → cause c past s ≡ Some why → MustAct c past s
