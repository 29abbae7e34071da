-- What a step makes of a world and of the session that it is for.
use Rattle.std.specs.Prelude.{◌≡◌, ℕ, ◌<◌, Bool, true, false, List, ◌∷◌, ◌++◌, Option, Some, None, option_map}
use Rattle.relay_model.specs.{Act, Place, Config, is_of, is_place_of, is_program_door, single, is_open, standing, turns, Legal, is_at, is_turn}
use Rattle.relay_model.specs.{is_closing, reads_bytes, first_fault}
use Rattle.relay_model.specs.declared.acts.Act.TheVariants.{ReadFault, WriteFault, Closed}
use Rattle.relay_model.specs.declared.acts.Why.TheVariants as whys
use Rattle.relay_model.specs.Journals.{History, Asking}
use Rattle.world_trait.specs.{Answered, AnsweredAsking, DidNothing, Rose}
use Rattle.relay_session.specs.{Session, Wish, Stands, Heard, wish_of, left_of, ending_of, has_ended, is_blamed, stop_turned}
use Rattle.relay_session.specs.declared.wishes.Wish.TheVariants as wishes
use Rattle.world_trait.specs.Seen.{Seen, Waitless}
use Rattle.session_driver.specs.declared.stepped.Stepped.{Stepped}
use Rattle.session_driver.specs.declared.stepped.Stepped.TheVariants as steps

-- the acts of a run, newest first, and what it asked for, behind what a world had told before
abbrev pub extend : List Act → List Asking → History → History
extend past pairs h = record { acts = past ++ h.acts; asked = h.asked ++ pairs }

-- the session, whatever its number, stands for some legal history of the command that this world stands for
pub record Meets (c : Config) (now : Seen) (session : Session) : Type 0 where
  pub n : ℕ
  pub past : List Act
  pub s : ℕ
  pub legal : Legal c n past
  pub stands : Stands c n past s session
  pub start : Option History
  pub pairs : List Asking
  pub told : now.told ≡ option_map (extend past pairs) start
  pub holds : (p : Place) → now.held p ≡ standing past p

-- what a call did, which asked for something or for nothing
abbrev pub DidFor : Option Asking → Seen → Seen → Act → Type 0
DidFor None old new act = Answered old new (Some act)
DidFor (Some asking) old new act = AnsweredAsking asking old new (Some act)

-- what it asked for is the session's own, with its address
abbrev pub OwnAsking : Config → ℕ → Option Asking → Type 0
OwnAsking c s None = Unit {0}
OwnAsking c s (Some asking) = (is_of c s asking.0 ≡ true) × (asking.1 ≡ single c asking.0)

-- the act is no turn
pub record NoTurn (act : Act) : Type 0 where
  pub turns_same : (past : List Act) → turns (act ∷ past) ≡ turns past
  pub stops_same : (past : List Act) → stop_turned (act ∷ past) ≡ stop_turned past

-- it is at places and doors of this session alone
pub record IsActOf (c : Config) (s : ℕ) (act : Act) : Type 0 where
  pub own : (p : Place) → is_at act p ≡ true → (p.session ≡ s) × (is_program_door c p ≡ false)
  pub untimed : is_turn act ≡ false

-- it is a closing where one was wished for, and then that one
abbrev pub ClosesAsWished : Wish → Act → Type 0
ClosesAsWished (wishes.Close q why) act = act ≡ Closed q why
ClosesAsWished wish act = is_closing act ≡ false

-- it reads bytes only where a read was wished for
abbrev pub ReadsAsWished : Wish → Act → Type 0
ReadsAsWished (wishes.Read q at_most) act = Unit {0}
ReadsAsWished wish act = reads_bytes act ≡ false

-- the world did this act, and whatever the session stands for it has heard it
pub record Acts (c : Config) (old new : Seen) (before after : Session) (act : Act) : Type 0 where
  -- what the world did, and that the session heard it
  pub asked : Option Asking
  pub failed : Bool
  pub did : DidFor asked old new act
  pub heard : (n : ℕ) (past : List Act) (s : ℕ) → Stands c n past s before → Heard c n past s act before after
  -- it is the session's own, and what it wished
  pub own : (n : ℕ) (past : List Act) (s : ℕ) → Stands c n past s before → OwnAsking c s asked
  pub here : (n : ℕ) (past : List Act) (s : ℕ) → Stands c n past s before → IsActOf c s act
  pub closes : ClosesAsWished (wish_of before) act
  pub reads : ReadsAsWished (wish_of before) act
  -- it is no turn, and counts as a fault where it failed
  pub no_turn : NoTurn act
  pub rose : Rose old.faults new.faults failed
  pub blameless : failed ≡ false → (past : List Act) → is_blamed (act ∷ past) ≡ is_blamed past
  pub waitless : Waitless old new
  -- an ended session stays as it ended
  pub over : (n : ℕ) (past : List Act) (s : ℕ) → Stands c n past s before → has_ended before ≡ true → has_ended after ≡ true
  pub ending : (n : ℕ) (past : List Act) (s : ℕ) → Stands c n past s before → has_ended before ≡ true → ending_of after ≡ ending_of before

-- the act is no read and no write that failed
abbrev pub IsFaultless : Config → Act → Type 0
IsFaultless c act = (past : List Act) (s : ℕ) → first_fault c (act ∷ past) s ≡ first_fault c past s

-- the place is one of the session's
abbrev pub IsOwn : Config → Session → Place → Type 0
IsOwn c session p = (n : ℕ) (past : List Act) (s : ℕ) → Stands c n past s session → is_place_of c s p ≡ true

-- the session, which nothing has ended, wishes to read so many bytes at a place of its own that is open
pub record WishesRead (c : Config) (now : Seen) (session : Session) (place : Place) (at_most : ℕ) : Type 0 where
  pub wish : wish_of session ≡ wishes.Read place at_most
  pub opened : is_open (now.held place) ≡ true
  pub own : IsOwn c session place
  pub going : has_ended session ≡ false

-- nothing was done, and the session stands for what it stood for
pub record Idles (c : Config) (old new : Seen) (before after : Session) : Type 0 where
  pub did : DidNothing old new
  pub stands : (n : ℕ) (past : List Act) (s : ℕ) → Stands c n past s before → Stands c n past s after
  pub ending : (n : ℕ) (past : List Act) (s : ℕ) → Stands c n past s before → has_ended before ≡ true → ending_of after ≡ ending_of before
  pub rose : Rose old.faults new.faults false
  pub waitless : Waitless old new

-- the session was cut for want of memory, whatever it stands for
pub record IsCut (before after : Session) : Type 0 where
  pub stands : (c : Config) (n : ℕ) (past : List Act) (s : ℕ) → Stands c n past s before → has_ended before ≡ false → Stands c n past s after
  pub ending : ending_of after ≡ Some whys.Memory
  pub over : has_ended after ≡ true
  pub left : left_of after ≡ left_of before

-- what one step was: an act, no child, want of memory, a sleep or the end
abbrev pub StepIs : Config → Seen → Seen → Session → Session → Stepped → Type 0
StepIs c old new before after steps.Acted = (act : Act) × IsFaultless c act × Acts c old new before after act
StepIs c old new before after (steps.ReadFailed p) = IsOwn c before p × Acts c old new before after (ReadFault p)
StepIs c old new before after (steps.WriteFailed p) = IsOwn c before p × Acts c old new before after (WriteFault p)
StepIs c old new before after steps.Childless =
    Idles c old new before after × ((n : ℕ) (past : List Act) (s : ℕ) → Stands c n past s before → (left_of after < left_of before) × (has_ended before ≡ true → has_ended after ≡ true))
StepIs c old new before after steps.Memory = Idles c old new before after × (has_ended before ≡ false) × (has_ended after ≡ true) × (left_of after ≡ left_of before) × (ending_of after ≡ Some whys.Memory)
StepIs c old new before after (steps.Sleep until) = (new ≡ old) × (after ≡ before) × (wish_of before ≡ wishes.Sleep until) × (has_ended before ≡ false)
StepIs c old new before after (steps.Done why) = (new ≡ old) × (after ≡ before) × (wish_of before ≡ wishes.Done why)
