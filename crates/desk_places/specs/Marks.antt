-- Which halves are disarmed after a call: those that it answered with nothing yet.
use Rattle.std.specs.Prelude.{◌≡◌, ◌&&◌, Bool, true, false, if◌then◌else◌}
use Rattle.relay_model.specs.{Place, Half, same_half, same_place}
use Rattle.relay_model.specs.declared.places.Half.TheVariants.{ToRead}
use Rattle.world_trait.specs.{OpenAnswer, ListenAnswer, AcceptAnswer}
use Rattle.world_trait.specs.declared.answers.OpenAnswer.TheVariants as opens
use Rattle.world_trait.specs.declared.answers.ListenAnswer.TheVariants as listens
use Rattle.world_trait.specs.declared.answers.AcceptAnswer.TheVariants as accepts

-- each half is disarmed where it was
abbrev pub SameMarks : (Place → Half → Bool) → (Place → Half → Bool) → Type 0
SameMarks before after = (p : Place) (h : Half) → after p h ≡ before p h

-- this half of the place is disarmed or not, and each other half is where it was
abbrev pub MarksHalf : Place → Half → Bool → (Place → Half → Bool) → (Place → Half → Bool) → Type 0
MarksHalf place half disarmed before after = (p : Place) (h : Half) → after p h ≡ (if same_place place p && same_half half h then disarmed else before p h)

-- both halves of the place are disarmed or not, and each half of another place is where it was
abbrev pub MarksPlace : Place → Bool → (Place → Half → Bool) → (Place → Half → Bool) → Type 0
MarksPlace place disarmed before after = (p : Place) (h : Half) → after p h ≡ (if same_place place p then disarmed else before p h)

-- the reading half of the door and both halves of the place are armed
abbrev pub ArmsBoth : Place → Place → (Place → Half → Bool) → (Place → Half → Bool) → Type 0
ArmsBoth door place before after = (p : Place) (h : Half) → after p h ≡ (if same_place door p && same_half ToRead h then false else (if same_place place p then false else before p h))

-- after an opening: one that is under way has both halves disarmed
abbrev pub OpenMarks : Place → OpenAnswer → (Place → Half → Bool) → (Place → Half → Bool) → Type 0
OpenMarks place opens.Opened before after = MarksPlace place false before after
OpenMarks place opens.Later before after = MarksPlace place true before after
OpenMarks place opens.Failed before after = SameMarks before after
OpenMarks place opens.Memory before after = SameMarks before after

-- after a settling: the same, and one that failed has no half
abbrev pub SettleMarks : Place → OpenAnswer → (Place → Half → Bool) → (Place → Half → Bool) → Type 0
SettleMarks place opens.Opened before after = MarksPlace place false before after
SettleMarks place opens.Later before after = MarksPlace place true before after
SettleMarks place opens.Failed before after = MarksPlace place false before after
SettleMarks place opens.Memory before after = SameMarks before after

-- after a listening
abbrev pub ListenMarks : Place → ListenAnswer → (Place → Half → Bool) → (Place → Half → Bool) → Type 0
ListenMarks door listens.Listening before after = MarksPlace door false before after
ListenMarks door listens.Failed before after = SameMarks before after
ListenMarks door listens.Memory before after = SameMarks before after

-- after an accepting: a door without a peer has its reading half disarmed
abbrev pub AcceptMarks : Place → Place → AcceptAnswer → (Place → Half → Bool) → (Place → Half → Bool) → Type 0
AcceptMarks door place (accepts.Accepted peer) before after = ArmsBoth door place before after
AcceptMarks door place accepts.NoPeer before after = MarksHalf door ToRead true before after
AcceptMarks door place accepts.Failed before after = MarksHalf door ToRead false before after
AcceptMarks door place accepts.Memory before after = SameMarks before after
