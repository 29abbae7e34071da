-- The laws that legal lists of acts keep, as statements.
use Rattle.std.specs.Prelude.{◌≡◌, ◌<◌, ◌≤◌, ◌*◌, ℕ, suc, Bool, true, false, not, ◌⊎◌, ◌↔◌, List, ◌∷◌, ◌++◌, drop, Some, is_some}
use Rattle.std.specs.List.{list_any}
use Rattle.relay_model.specs.declared.places.Way.{Way}
use Rattle.relay_model.specs.declared.places.Place.{Place}
use Rattle.relay_model.specs.declared.commands.Config.{Config}
use Rattle.relay_model.specs.declared.acts.Why.{Why}
use Rattle.relay_model.specs.declared.acts.Why.TheVariants as whys
use Rattle.relay_model.specs.declared.acts.Act.{Act}
use Rattle.relay_model.specs.declared.acts.Act.TheVariants.{Opened, OpenLater, Listening, ListenFailed, Accepted, NoPeer, AcceptFailed, Read, ReadEmpty, ReadEnd, ReadNotYet, ReadFault, Wrote, WriteNotYet, WriteFault, Shut, ShutFault, Closed}
use Rattle.relay_model.specs.Places.{same_place}
use Rattle.relay_model.specs.Holding.{standing, is_free}
use Rattle.relay_model.specs.Configs.{input, output, formed, has_fork, program_door, is_program_door}
use Rattle.relay_model.specs.History.{now, same_why, got, put, held, stage, served, woken}
use Rattle.relay_model.specs.declared.stages.Stage.TheVariants.{Unsettled, Waiting}
use Rattle.relay_model.specs.Arming.{armed_to_accept}
use Rattle.relay_model.specs.Sessions.{numbers, admitted, holds, live_count, next_place, door_options}
use Rattle.relay_model.specs.Transfers.{due, backlog}
use Rattle.relay_model.specs.Moments.{passed}
use Rattle.relay_model.specs.declared.calls.Call.{Call}
use Rattle.relay_model.specs.declared.calls.Call.TheVariants.{Nothing, TryAt, Open, Settle, Listen, Accept, Refuse, Serve}
use Rattle.relay_model.specs.Cause.{cause}
use Rattle.relay_model.specs.Calls.{called_at, door_call, enough, full}
use Rattle.relay_model.specs.May.{May, Legal, BeginsWith}
use Rattle.relay_model.specs.Audit.{may_come, first_illegal}
use Rattle.relay_model.specs.Frames.{is_at, reaps}

-- what stood before some of the last acts of a legal list is legal
abbrev pub PrefixesAreLegal : Type 0
PrefixesAreLegal = (c : Config) (n k : ℕ) (past : List Act) → Legal c n past → Legal c n (drop k past)

-- what was written is always a prefix of what is due
abbrev pub WrittenIsDue : Type 0
WrittenIsDue = (c : Config) (n : ℕ) (past : List Act) (s : ℕ) (w : Way) → Legal c n past → BeginsWith (put past (output c s w)) (due c w (got past (input c s w)))

-- no more than two blocks wait to be written
abbrev pub BacklogIsBounded : Type 0
BacklogIsBounded = (c : Config) (n : ℕ) (past : List Act) (s : ℕ) (w : Way) → Legal c n past → backlog c past s w ≤ 2 * c.block

-- the act writes, tries to write or passes an end on at the place
abbrev pub uses_output : Act → Place → Bool
uses_output (Wrote q bytes) p = same_place q p
uses_output (WriteNotYet q) p = same_place q p
uses_output (WriteFault q) p = same_place q p
uses_output (Shut q way) p = same_place q p
uses_output (ShutFault q way) p = same_place q p
uses_output act p = false

-- once a direction has passed its end, nothing is written and no end is passed there any more
abbrev pub EndIsLast : Type 0
EndIsLast = (c : Config) (n : ℕ) (act : Act) (past : List Act) (s : ℕ) (w : Way) → Legal c n (act ∷ past) → passed c past s w ≡ true → uses_output act (output c s w) ≡ false

-- a direction that has passed its end has written all that is due
abbrev pub PassedIsWhole : Type 0
PassedIsWhole = (c : Config) (n : ℕ) (past : List Act) (s : ℕ) (w : Way) → Legal c n past → passed c past s w ≡ true → put past (output c s w) ≡ due c w (got past (input c s w))

-- where two legal histories read the same, one has written what the other has, or a beginning of it
abbrev pub OutputsAgree : Type 0
OutputsAgree =
    (c : Config) (n m : ℕ) (one other : List Act) (s t : ℕ) (w : Way) → Legal c n one → Legal c m other → got one (input c s w) ≡ got other (input c t w) →
    BeginsWith (put one (output c s w)) (put other (output c t w)) ⊎ BeginsWith (put other (output c t w)) (put one (output c s w))

-- ---- what is held

-- the act reads at, writes at, shuts, closes or asks this thing, which must be held for that
abbrev pub uses : Act → Place → Bool
uses (NoPeer q) p = same_place q p
uses (AcceptFailed q) p = same_place q p
uses (Read q bytes) p = same_place q p
uses (ReadEmpty q) p = same_place q p
uses (ReadEnd q) p = same_place q p
uses (ReadNotYet q) p = same_place q p
uses (ReadFault q) p = same_place q p
uses (Wrote q bytes) p = same_place q p
uses (WriteNotYet q) p = same_place q p
uses (WriteFault q) p = same_place q p
uses (Shut q way) p = same_place q p
uses (ShutFault q way) p = same_place q p
uses (Closed q why) p = same_place q p
uses act p = false

-- the act begins or settles a holding of this thing
abbrev pub begins_holding : Act → Place → Bool
begins_holding (Opened q) p = same_place q p
begins_holding (OpenLater q) p = same_place q p
begins_holding (Listening q) p = same_place q p
begins_holding (Accepted q peer) p = same_place q p
begins_holding act p = false

-- what is used is held
abbrev pub UsedIsHeld : Type 0
UsedIsHeld = (c : Config) (n : ℕ) (act : Act) (past : List Act) (p : Place) → Legal c n (act ∷ past) → uses act p ≡ true → held past p ≡ true

-- after a closing nothing happens at the thing, not a second closing either, until it is opened or accepted anew
abbrev pub ClosedIsOver : Type 0
ClosedIsOver =
    (c : Config) (n : ℕ) (act : Act) (later past : List Act) (p : Place) (why : Why) → Legal c n (act ∷ later ++ Closed p why ∷ past) →
    list_any (λ a. begins_holding a p) later ≡ false → uses act p ≡ false

-- what was closed for another reason than a refusal is closed for good: nothing but the end of its child follows there
abbrev pub ClosedForGood : Type 0
ClosedForGood =
    (c : Config) (n : ℕ) (act : Act) (later past : List Act) (p : Place) (why : Why) → Legal c n (act ∷ later ++ Closed p why ∷ past) →
    same_why why whys.Refused ≡ false → is_at act p ≡ true → reaps act ≡ true

-- how a thing stands for a world is whether it is held
abbrev pub StandingIsHeld : Type 0
StandingIsHeld = (c : Config) (n : ℕ) (past : List Act) (p : Place) → Legal c n past → is_free (standing past p) ≡ not (held past p)

-- what a call says of the things that it names
abbrev pub Tells : List Act → Call → Type 0
Tells past Nothing = Unit {0}
Tells past (TryAt m) = now past < m
Tells past (Open p) = held past p ≡ false
Tells past (Settle p) = (stage past p ≡ Unsettled) × (woken past p ≡ true)
Tells past (Listen d) = held past d ≡ false
Tells past (Accept d p) = (stage past d ≡ Waiting) × (armed_to_accept past d ≡ true)
Tells past (Refuse p) = held past p ≡ true
Tells past (Serve d) = held past d ≡ true

-- what a call says of the things that it names
abbrev pub CallsTell : Type 0
CallsTell = (c : Config) (past : List Act) (p : Place) → Tells past (called_at c past p)

-- only things of sessions that have begun are held, and the place of a peer that may become the next session
abbrev pub HeldHasBegun : Type 0
HeldHasBegun = (c : Config) (n : ℕ) (past : List Act) (p : Place) → Legal c n past → held past p ≡ true → p.session < suc (numbers c past)

-- ---- judging by computing

-- a list is legal exactly where the tests find no act that may not come
abbrev pub TestsAreRight : Type 0
TestsAreRight = (c : Config) (n : ℕ) (past : List Act) → (first_illegal c n past ≡ 0) ↔ Legal c n past

-- after a legal list the test of one act holds exactly where that act may come
abbrev pub OneTestIsRight : Type 0
OneTestIsRight = (c : Config) (n : ℕ) (past : List Act) (act : Act) → Legal c n past → (may_come c n past act ≡ true) ↔ May c n past act

-- ---- the program door

-- what the program door's call says
abbrev pub DoorTells : Config → List Act → Call → Type 0
DoorTells c past Nothing = Unit {0}
DoorTells c past (TryAt m) = Unit {0}
DoorTells c past (Open p) = ⊥
DoorTells c past (Settle p) = ⊥
DoorTells c past (Listen d) = d ≡ program_door
DoorTells c past (Accept d p) = (d ≡ program_door) × (p ≡ next_place c past) × (enough c past ≡ false) × (full c past ≡ false)
DoorTells c past (Refuse p) = p ≡ next_place c past
DoorTells c past (Serve d) = (d ≡ program_door) × (enough c past ≡ true)

-- what the program door's call says
abbrev pub ProgramDoorTells : Type 0
ProgramDoorTells = (c : Config) (past : List Act) → DoorTells c past (door_call c past)

-- no more peers are permitted than are to be served
abbrev pub AdmittedIsBounded : Type 0
AdmittedIsBounded = (c : Config) (n : ℕ) (past : List Act) → Legal c n past → admitted c past ≤ (door_options c).sessions.stop_after

-- a session that holds nothing any more never holds anything again
abbrev pub EndedStaysEnded : Type 0
EndedStaysEnded = (c : Config) (n : ℕ) (act : Act) (past : List Act) (s : ℕ) → Legal c n (act ∷ past) → has_fork c ≡ true → s < admitted c past → holds c past s ≡ false → holds c (act ∷ past) s ≡ false

-- a session that has a cause opens, listens and accepts nothing any more, so that what was closed then stays closed
abbrev pub CausedBeginsNothing : Type 0
CausedBeginsNothing =
    (c : Config) (n : ℕ) (act : Act) (past : List Act) (s : ℕ) → Legal c n (act ∷ past) → s < numbers c past → is_some (cause c past s) ≡ true →
    (p : Place) → p.session ≡ s → is_program_door c p ≡ false → begins_holding act p ≡ false

-- the act listens at this door, or fails to
abbrev pub is_listening : Act → Place → Bool
is_listening (Listening q) d = same_place q d
is_listening (ListenFailed q) d = same_place q d
is_listening act d = false

-- a door that was closed since it had served is listened at no more
abbrev pub ServedDoorStaysClosed : Type 0
ServedDoorStaysClosed = (c : Config) (n : ℕ) (act : Act) (past : List Act) (d : Place) → Legal c n (act ∷ past) → served past d ≡ true → is_listening act d ≡ false

-- it stays a door that has served, whatever comes
abbrev pub ServedDoorStaysServed : Type 0
ServedDoorStaysServed = (c : Config) (n : ℕ) (act : Act) (past : List Act) (d : Place) → Legal c n (act ∷ past) → d.door ≡ true → served past d ≡ true → served (act ∷ past) d ≡ true

-- no more sessions live than may
abbrev pub LiveIsBounded : Type 0
LiveIsBounded = (c : Config) (n : ℕ) (past : List Act) → Legal c n past → has_fork c ≡ true → live_count c past ≤ (door_options c).sessions.max_children

-- ---- the whole

-- a session that ends since it has finished has written all that is due, in each of its directions
abbrev pub FinishedIsWhole : Type 0
FinishedIsWhole =
    (c : Config) (n : ℕ) (past : List Act) (s : ℕ) (w : Way) → Legal c n past → cause c past s ≡ Some whys.Finished → formed c w ≡ true →
    put past (output c s w) ≡ due c w (got past (input c s w))
