-- What an act makes of the state of a session.
use Rattle.std.specs.Prelude.{◌≡◌, ℕ, ◌<◌, Bool, true, false, List, [], ◌∷◌, Option, Some, None}
use Rattle.relay_model.specs.{Place, Config, Act, cause, owed}
use Rattle.relay_model.specs.May.{May}
use Rattle.relay_session.specs.declared.lanes.Lanes.{Lanes}
use Rattle.relay_session.specs.declared.states.State.{State}
use Rattle.relay_session.specs.declared.transfers.Transfer.{Transfer}
use Rattle.relay_session.specs.declared.wishes.Wish.{Wish}
use Rattle.relay_session.specs.declared.wishes.Wish.TheVariants as wishes
use Rattle.relay_session.specs.Lanes.{waiting_at, keeps_at}
use Rattle.relay_session.specs.Transfers.{MayTransfer, affords_at}
use Rattle.relay_session.specs.Endings.{Quiet}
use Rattle.relay_session.specs.States.{Allowed, Ground, Fields, steps_of}

-- the act may come where no dump is owed, the state stands for the history with it, and fewer steps are left
pub record Absorbed (c : Config) (n : ℕ) (past : List Act) (s : ℕ) (act : Act) (old new : State) : Type 0 where
  pub may : owed c past ≡ None → May c n past act
  pub fields : Fields c n (act ∷ past) s new
  pub fewer : steps_of new < steps_of old

-- of an answer that makes an act, that the state has taken it in; of another nothing
abbrev pub AbsorbedBy : Config → ℕ → List Act → ℕ → Option Act → State → State → Type 0
AbsorbedBy c n past s (Some act) old new = Absorbed c n past s act old new
AbsorbedBy c n past s None old new = Unit {0}

-- wherever this wish may be made, the state has taken in that it came to this act
abbrev pub TakesIn : Wish → Act → State → State → Type 0
TakesIn wish act old new = (c : Config) (n : ℕ) (past : List Act) (s : ℕ) → Fields c n past s old → Allowed c n past s old wish → Absorbed c n past s act old new

-- nothing from outside has ended the session, and what ends it by itself is known
pub record Heeds (c : Config) (past : List Act) (s : ℕ) (st : State) : Type 0 where
  pub ground : Ground c past s st
  pub quiet : Quiet c past s
  pub ending_is : st.ending ≡ cause c past s

-- a transfer at a place of the session, of a kind that wasn't asked there since the last turn or can be paid for
pub record Transfers (c : Config) (past : List Act) (s : ℕ) (lanes : Lanes) (p : Place) (transfer : Transfer) : Type 0 where
  pub own : p.session ≡ s
  pub may : MayTransfer c past p (waiting_at lanes p) transfer
  pub affords : affords_at lanes p transfer ≡ true

-- the bytes that a wish offers
abbrev pub waiting_for : State → Wish → List ℕ
waiting_for st (wishes.Write p) = waiting_at st.lanes p
waiting_for st (wishes.Send p) = waiting_at st.lanes p
waiting_for st wish = []

-- the bytes that a wish offers go out as one packet
abbrev pub keeps_for : State → Wish → Bool
keeps_for st (wishes.Write p) = keeps_at st.lanes p
keeps_for st (wishes.Send p) = keeps_at st.lanes p
keeps_for st wish = false
