-- What a step makes of the list of acts, and of one opening.
use Rattle.std.specs.Prelude.{◌≡◌, ◌<◌, ◌⊎◌, ◌||◌, ℕ, Bool, true, false, List, [], ◌∷◌, ◌++◌, Option}
use Rattle.relay_model.specs.{Place, ReadyAt, Config, ChildEnd, Act, same_place, listens_at, now, holds_at}
use Rattle.relay_model.specs.declared.acts.Act.TheVariants as acts
use Rattle.place_openings.specs.declared.one_place.Opening.{Opening}
use Rattle.place_openings.specs.Queries.{ready_by}
use Rattle.place_openings.specs.Stands.{kept, IsOpening}
use Rattle.place_openings.specs.Steps.{stage_weight, steps_of, is_place, is_own_door, asks_child, asked_by}
use Rattle.place_openings.specs.declared.steps.OpeningStep.{OpeningStep}
use Rattle.place_openings.specs.declared.steps.OpeningStep.TheVariants.{Opened, OpenedLater, OpenFailed, Listening, ListenFailed, Accepted, NoPeer, AcceptFailed, Closed, Reaped, Woken, Named}

-- a turn that names nothing yet
pub record IsBareTurn (past later : List Act) : Type 0 where
  pub until : Option ℕ
  pub at : ℕ
  pub later_is : later ≡ acts.Turn until at (kept []) false ∷ past

-- the last turn names one half more
pub record NamesMore (entry : ReadyAt) (past later : List Act) : Type 0 where
  pub until : Option ℕ
  pub at : ℕ
  pub names : List ReadyAt
  pub older : List Act
  pub past_is : past ≡ acts.Turn until at (kept names) false ∷ older
  pub later_is : later ≡ acts.Turn until at (kept (names ++ entry ∷ [])) false ∷ older

-- the acts have one reaping of this place more
pub record ReapsOnceMore (place : Place) (past later : List Act) : Type 0 where
  pub end : ChildEnd
  pub later_is : later ≡ acts.Reaped place end ∷ past

-- the later list of acts that a step stands for; where there is no child to be reaped, nothing is added
abbrev pub Follows : Config → OpeningStep → List Act → List Act → Type 0
Follows c (Opened q) past later = later ≡ acts.Opened q ∷ past
Follows c (OpenedLater q) past later = later ≡ acts.OpenLater q ∷ past
Follows c (OpenFailed q at) past later = (listens_at c q ≡ false) × (at ≡ now past) × (later ≡ acts.OpenFailed q ∷ past)
Follows c (Listening d) past later = later ≡ acts.Listening d ∷ past
Follows c (ListenFailed d at) past later = (d.door ≡ true) × (at ≡ now past) × (later ≡ acts.ListenFailed d ∷ past)
Follows c (Accepted q peer) past later = (q.door ≡ false) × (later ≡ acts.Accepted q peer ∷ past)
Follows c (NoPeer d) past later = later ≡ acts.NoPeer d ∷ past
Follows c (AcceptFailed d) past later = later ≡ acts.AcceptFailed d ∷ past
Follows c (Closed q why) past later = later ≡ acts.Closed q why ∷ past
Follows c (Reaped q) past later = ReapsOnceMore q past later ⊎ (later ≡ past)
Follows c Woken past later = IsBareTurn past later
Follows c (Named entry) past later = NamesMore entry past later

-- the step is at the place of this opening, at its own door, or at neither
pub record AtPlace (q : Place) (o : Opening) : Type 0 where
  pub is_there : is_place q o ≡ true
  pub no_door : is_own_door q o ≡ false

-- the thing is the opening's own door
pub record AtDoor (d : Place) (o : Opening) : Type 0 where
  pub no_place : is_place d o ≡ false
  pub is_there : is_own_door d o ≡ true

-- the thing is neither the opening's place nor its own door
pub record Elsewhere (q : Place) (o : Opening) : Type 0 where
  pub no_place : is_place q o ≡ false
  pub no_door : is_own_door q o ≡ false

-- the step is at no thing of this opening
abbrev pub Apart : OpeningStep → Opening → Type 0
Apart (Opened q) o = Elsewhere q o
Apart (OpenedLater q) o = Elsewhere q o
Apart (OpenFailed q at) o = Elsewhere q o
Apart (Listening d) o = Elsewhere d o
Apart (ListenFailed d at) o = Elsewhere d o
Apart (Accepted q peer) o = Elsewhere q o
Apart (NoPeer d) o = Elsewhere d o
Apart (AcceptFailed d) o = Elsewhere d o
Apart (Closed q why) o = Elsewhere q o
Apart (Reaped q) o = asks_child q o ≡ false
Apart Woken o = ⊥
Apart (Named entry) o = ⊥

-- an opening or a settling, or a listening, is left
abbrev pub CanOpen : Opening → Type 0
CanOpen o = stage_weight o.stage o.woken o.tried ≡ 2

-- the door calls for a listening
abbrev pub CanListen : Opening → Type 0
CanListen o = stage_weight o.door false o.tried ≡ 2

-- the step lowers the number of calls that are left at this opening
abbrev pub Lower : OpeningStep → Opening → Type 0
Lower (Opened q) o = AtPlace q o × CanOpen o
Lower (OpenedLater q) o = AtPlace q o × CanOpen o
Lower (OpenFailed q at) o = AtPlace q o × (o.has_door ≡ false) × CanOpen o
Lower (Listening d) o = AtDoor d o × CanListen o
Lower (ListenFailed d at) o = AtDoor d o × CanListen o
Lower (Accepted q peer) o = AtPlace q o × (o.has_door ≡ true) × (o.asked ≡ false)
Lower (NoPeer d) o = AtDoor d o × (o.asked ≡ false)
Lower (AcceptFailed d) o = AtDoor d o × (o.asked ≡ false)
Lower (Closed q why) o = (AtPlace q o × (holds_at o.stage ≡ true)) ⊎ (AtDoor q o × (holds_at o.door ≡ true))
Lower (Reaped q) o = asks_child q o ≡ true
Lower Woken o = ⊥
Lower (Named entry) o = ⊥

-- each opening is apart from the step or lowered by it
abbrev pub Weighed : OpeningStep → List Opening → Type 0
Weighed step [] = Unit {0}
Weighed step (o ∷ os) = (Apart step o ⊎ Lower step o) × Weighed step os

-- and one is lowered
abbrev pub SomeLower : OpeningStep → List Opening → Type 0
SomeLower step [] = ⊥
SomeLower step (o ∷ os) = Lower step o ⊎ SomeLower step os

-- the step asks for the child of this place
abbrev pub asks_at : OpeningStep → Place → Bool
asks_at (Reaped q) p = same_place q p
asks_at step p = false

-- the step moves no stage, and no try failed by it
abbrev pub is_still : OpeningStep → Bool
is_still (NoPeer d) = true
is_still (AcceptFailed d) = true
is_still (Reaped q) = true
is_still Woken = true
is_still (Named entry) = true
is_still step = false

-- an opening is as ready as before, and was tried as often
pub record Alike (old new : Opening) : Type 0 where
  pub ready_is : ready_by new ≡ ready_by old
  pub listens_is : new.listens ≡ old.listens
  pub has_door_is : new.has_door ≡ old.has_door
  pub plan_is : new.plan ≡ old.plan

-- what a step makes of one opening
pub record TakesStep (step : OpeningStep) (old new : Opening) : Type 0 where
  pub goes : (c : Config) (past later : List Act) (p : Place) → Follows c step past later → IsOpening c past p old → IsOpening c later p new
  pub apart : Apart step old → new ≡ old
  pub fewer : Lower step old → steps_of new < steps_of old
  pub asked : (p : Place) → asked_by p new ≡ true → (asked_by p old || asks_at step p) ≡ true
  pub still : is_still step ≡ true → Alike old new

-- and of each of these
abbrev pub TookEach : OpeningStep → List Opening → List Opening → Type 0
TookEach step [] [] = Unit {0}
TookEach step [] (n ∷ ns) = ⊥
TookEach step (o ∷ os) [] = ⊥
TookEach step (o ∷ os) (n ∷ ns) = TakesStep step o n × TookEach step os ns
