-- What a step of the program door makes of a world and of the door.
use Rattle.std.specs.Prelude.{◌≡◌, ◌⊎◌, ℕ, ◌<◌, Bool, true, false, List, ◌∷◌, Option, Some, None}
use Rattle.relay_model.specs.{Place, Config, Peer, Why, Act, program_door, single, standing, now as moment, Asking, admitted, live_count, next_place}
use Rattle.relay_model.specs.{permits, door_call, Legal, is_turn, is_common, reads_bytes, IsForeign}
use Rattle.relay_model.specs.declared.acts.Act.TheVariants.{Accepted, AcceptFailed, Closed}
use Rattle.relay_model.specs.declared.calls.Call.TheVariants.{Accept}
use Rattle.world_trait.specs.{DidNothing, Rose}
use Rattle.relay_session.specs.{is_blamed}
use Rattle.program_door.specs.{Door, DoorWish, door_cause, DoorStands, DoorHeard, Wished}
use Rattle.program_door.specs.declared.wishes.DoorWish.TheVariants as wishes
use Rattle.world_trait.specs.Seen.{Seen, Waitless}
use Rattle.session_driver.specs.Steps.{DidFor, NoTurn}
use Rattle.session_driver.specs.declared.door_stepped.DoorStepped.{DoorStepped}
use Rattle.session_driver.specs.declared.door_stepped.DoorStepped.TheVariants as steps

-- the door stands for this legal history, whose last turn was at this moment and in which so many sessions live
pub record DoorFor (c : Config) (n : ℕ) (past : List Act) (at live : ℕ) (door : Door) : Type 0 where
  pub legal : Legal c n past
  pub stands : DoorStands c past door
  pub at_is : at ≡ moment past
  pub live_is : live ≡ live_count c past

-- it stands for one that this world stands for
pub record DoorMeets (c : Config) (now : Seen) (at live : ℕ) (door : Door) : Type 0 where
  pub n : ℕ
  pub past : List Act
  pub meets : DoorFor c n past at live door
  pub holds : (p : Place) → now.held p ≡ standing past p

-- the door stands for this legal history, and this is what it wishes for there
pub record WishFor (c : Config) (n : ℕ) (past : List Act) (at : ℕ) (wish : DoorWish) (door : Door) : Type 0 where
  pub legal : Legal c n past
  pub stands : DoorStands c past door
  pub at_is : at ≡ moment past
  pub wished : Wished c past wish

-- what was asked for is the program door, with its address
abbrev pub DoorAsking : Config → Option Asking → Type 0
DoorAsking c None = Unit {0}
DoorAsking c (Some asking) = (asking.0 ≡ program_door) × (asking.1 ≡ single c program_door)

-- the world did this act, which is at no thing of a session that has begun, and whatever the door stands for among
-- these histories it has heard it
pub record DoorActs (c : Config) (For : ℕ → List Act → Type 0) (old new : Seen) (before after : Door) (act : Act) : Type 0 where
  pub asked : Option Asking
  pub failed : Bool
  pub did : DidFor asked old new act
  pub own : DoorAsking c asked
  pub heard : (n : ℕ) (past : List Act) → For n past → DoorHeard c n past act before after
  pub apart : (n : ℕ) (past : List Act) → For n past → (s : ℕ) → s < admitted c past → IsForeign c s act
  pub untimed : is_turn act ≡ false
  pub unread : reads_bytes act ≡ false
  pub no_turn : NoTurn act
  pub rose : Rose old.faults new.faults failed
  pub blameless : failed ≡ false → (past : List Act) → is_blamed (act ∷ past) ≡ is_blamed past
  pub waitless : Waitless old new

-- the act ends no session that has begun; or it closes what the door held for the reason that ended its calls
abbrev pub EndsNone : Config → List Act → Act → Type 0
EndsNone c past act = (is_common c act ≡ false) ⊎ ((q : Place) × (why : Why) × (act ≡ Closed q why) × (door_cause past ≡ Some why))

-- nobody became the next session
pub record AdmitsNone (c : Config) (past : List Act) (act : Act) : Type 0 where
  pub ends_none : EndsNone c past act
  pub admitted_same : admitted c (act ∷ past) ≡ admitted c past

-- the peer at this place is permitted, and was called for as the next session's
pub record Admits (c : Config) (past : List Act) (place : Place) (peer : Peer) : Type 0 where
  pub place_is : place ≡ next_place c past
  pub called : door_call c past ≡ Accept program_door (next_place c past)
  pub permitted : permits c place peer ≡ true

-- nothing was done
pub record DoorIdles (old new : Seen) (before after : Door) : Type 0 where
  pub did : DidNothing old new
  pub same : after ≡ before
  pub rose : Rose old.faults new.faults false
  pub waitless : Waitless old new

-- what became of the wish, of each of these histories that the door may stand for
abbrev pub DoorStepIs : Config → (ℕ → List Act → Type 0) → Seen → Seen → Door → Door → DoorStepped → Type 0
DoorStepIs c For old new before after steps.Acted = (act : Act) × DoorActs c For old new before after act × ((n : ℕ) (past : List Act) → For n past → AdmitsNone c past act)
DoorStepIs c For old new before after (steps.Admitted peer) = (place : Place) × DoorActs c For old new before after (Accepted place peer) × ((n : ℕ) (past : List Act) → For n past → Admits c past place peer)
DoorStepIs c For old new before after steps.AcceptFailed = DoorActs c For old new before after (AcceptFailed program_door)
DoorStepIs c For old new before after steps.Memory = DoorIdles old new before after
DoorStepIs c For old new before after (steps.Sleep until) = (new ≡ old) × (after ≡ before) × ((n : ℕ) (past : List Act) → For n past → Wished c past (wishes.Sleep until))
DoorStepIs c For old new before after steps.Done = (new ≡ old) × (after ≡ before) × ((n : ℕ) (past : List Act) → For n past → Wished c past wishes.Done)
