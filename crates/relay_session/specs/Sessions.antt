-- What a session says of the history that it stands for.
use Rattle.std.specs.Prelude.{◌≡◌, ℕ, ◌<◌, Bool, true, false, List, ◌∷◌, Option, Some, None, is_some}
use Rattle.relay_model.specs.{Config, Place, Act, Why, Listed, copied_list, closed_why, is_place_of, is_program, medium_of, was_closed, owed}
use Rattle.relay_model.specs.declared.acts.Act.TheVariants as acts
use Rattle.relay_model.specs.declared.acts.Why.TheVariants as whys
use Rattle.place_openings.specs.{has_asked}
use Rattle.relay_model.specs.May.{May}
use Rattle.relay_session.specs.declared.sessions.Session.{Session}
use Rattle.relay_session.specs.declared.wishes.Wish.{Wish}
use Rattle.relay_session.specs.declared.wishes.Wish.TheVariants as wishes
use Rattle.relay_session.specs.declared.sessions.PendingSession.{PendingSession}
use Rattle.relay_session.specs.Births.{IsNew}
use Rattle.relay_session.specs.States.{Ground, Fields, Allowed, steps_of, home}
use Rattle.relay_session.specs.Steps.{Heeds, waiting_for}

-- the session stands for this history of a command of n turns
pub record Stands (c : Config) (n : ℕ) (past : List Act) (s : ℕ) (session : Session) : Type 0 where
  pub fields : Fields c n past s session.state
  pub allowed : Allowed c n past s session.state session.wish

-- the session with this number, before it begins
pub record IsPendingSession (c : Config) (s : ℕ) (pending_session : PendingSession) : Type 0 where
  pub is_new : IsNew c s pending_session.state
  pub home_is : pending_session.home ≡ home c s

-- it does so while it hears the last turn, of which more may come
pub record Hears (c : Config) (n : ℕ) (past : List Act) (s : ℕ) (session : Session) : Type 0 where
  pub stands : Stands c n past s session
  pub heeds : Heeds c past s session.state

-- a session that was cut for this reason, and of which nothing was closed yet
pub record Leaver (c : Config) (n : ℕ) (past : List Act) (s : ℕ) (why : Why) (session : Session) : Type 0 where
  pub stands : Stands c n past s session
  pub ending : session.state.ending ≡ Some why
  pub unclosed : closed_why c past s ≡ None

-- it has heard a turn; one that says stop has cut it
abbrev pub HeardTurn : Config → ℕ → List Act → ℕ → Option ℕ → ℕ → Listed → Bool → Session → Type 0
HeardTurn c n past s until at ready false session = Hears c n (acts.Turn until at (copied_list ready) false ∷ past) s session
HeardTurn c n past s until at ready true session = Leaver c n (acts.Turn until at (copied_list ready) true ∷ past) s whys.Stopped session

-- so of every history after which it slept until some moment
abbrev pub HearsTurn : ℕ → Listed → Bool → Session → Session → Type 0
HearsTurn at ready stop old new =
    (c : Config) (n : ℕ) (past : List Act) (s : ℕ) (until : Option ℕ) → Stands c n past s old → old.wish ≡ wishes.Sleep until → HeardTurn c n past s until at ready stop new

-- what it keeps is what this history says, whatever ends it and whatever it wishes for
abbrev pub IsGrounded : Config → List Act → ℕ → Session → Type 0
IsGrounded c past s session = Ground c past s session.state

-- what a session wishes for
abbrev pub wish_of : Session → Wish
wish_of session = session.wish

-- the bytes that a wished write offers
abbrev pub waiting_of : Session → List ℕ
waiting_of session = waiting_for session.state session.wish

-- how many steps it takes at most before the next turn
abbrev pub left_of : Session → ℕ
left_of session = steps_of session.state

-- why it has ended, if it has
abbrev pub ending_of : Session → Option Why
ending_of session = session.state.ending

-- something has ended it
abbrev pub has_ended : Session → Bool
has_ended session = is_some session.state.ending

-- once it has ended it stays so
abbrev pub StaysEnded : Session → Session → Type 0
StaysEnded old new = (c : Config) (n : ℕ) (past : List Act) (s : ℕ) → Stands c n past s old → has_ended old ≡ true → has_ended new ≡ true

-- once it has ended, that it ended for this reason stays so
abbrev pub KeepsEnding : Session → Session → Type 0
KeepsEnding old new = (c : Config) (n : ℕ) (past : List Act) (s : ℕ) → Stands c n past s old → has_ended old ≡ true → ending_of new ≡ ending_of old

-- what an act makes of a session that heard it
pub record Heard (c : Config) (n : ℕ) (past : List Act) (s : ℕ) (act : Act) (old new : Session) : Type 0 where
  pub may : owed c past ≡ None → May c n past act
  pub stands : Stands c n (act ∷ past) s new
  pub fewer : left_of new < left_of old

-- of an answer that makes an act, that the session has heard it; of another nothing
abbrev pub HeardBy : Config → ℕ → List Act → ℕ → Option Act → Session → Session → Type 0
HeardBy c n past s (Some act) old new = Heard c n past s act old new
HeardBy c n past s None old new = Unit {0}

-- ---- children

-- the session has asked for the child of this place
abbrev pub has_asked_at : Session → Place → Bool
has_asked_at session p = has_asked session.state.openings p

-- it has asked for each of its children that was closed
abbrev pub AsksEach : Config → List Act → ℕ → Session → Type 0
AsksEach c past s session =
    (p : Place) → is_place_of c s p ≡ true → is_program (medium_of c p) ≡ true → was_closed past p ≡ true → has_asked_at session p ≡ true
