-- What acts of the program door make of what is said of it.
use Rattle.std.proofs.Common.{◌≡◌, refl, sym, ap, subst, ◌∙◌, ℕ, suc, ◌<◌, ◌≤◌, ◌+◌, Bool, true, false, not, cond, ◌&&◌, ◌||◌, List, [], ◌∷◌, Option, Some, None, is_none, arith}
use Rattle.std.proofs.lemmas.Bool.{false≢true, leb-false, or_parts, and_parts, false_from_ne_true}
use Rattle.relay_model.specs.declared.places.Side.TheVariants.{Left}
use Rattle.relay_model.specs.declared.places.Part.{Part}
use Rattle.relay_model.specs.declared.places.Place.{Place}
use Rattle.relay_model.specs.declared.commands.Config.{Config}
use Rattle.relay_model.specs.declared.acts.Peer.{Peer}
use Rattle.relay_model.specs.declared.acts.Why.{Why}
use Rattle.relay_model.specs.declared.acts.Why.TheVariants as whys
use Rattle.relay_model.specs.declared.acts.Act.{Act}
use Rattle.relay_model.specs.declared.acts.Act.TheVariants.{Turn, Accepted, AcceptFailed, Closed}
use Rattle.relay_model.specs.Places.{same_place}
use Rattle.relay_model.specs.Choices.{only_if, first_some, one_more}
use Rattle.relay_model.specs.Configs.{has_fork, program_door, place_at, things, is_of, parts, options_of}
use Rattle.relay_model.specs.Permits.{is_permitted}
use Rattle.relay_model.specs.History.{now, failures, stage, holds_at, held, memory_said, stop_said, accept_failed}
use Rattle.relay_model.specs.declared.stages.Stage.{Stage}
use Rattle.relay_model.specs.declared.stages.Stage.TheVariants.{Waiting, Met}
use Rattle.relay_model.specs.declared.stages.Stage.TheVariants as stages
use Rattle.relay_model.specs.Arming.{armed_to_accept, asked_to_accept}
use Rattle.relay_model.specs.Sessions.{admitted, numbers, next_place, first_part, permits, is_admission, door_options}
use Rattle.relay_model.specs.declared.calls.Call.{Call}
use Rattle.relay_model.specs.declared.calls.Call.TheVariants.{Nothing, Listen, Accept, Refuse, Serve}
use Rattle.relay_model.specs.Cause.{closed_why, is_end}
use Rattle.relay_model.specs.Calls.{call, called_at, door_call, door_cut, enough, full, program_door_call}
use Rattle.relay_model.specs.May.{Legal}
use Rattle.relay_model.specs.Laws.{Tells, DoorTells}
use Rattle.relay_laws.proofs.PlaceLemmas.{same_place_equal, same_place_self}
use Rattle.relay_laws.proofs.CallLemmas.{door_tells}
use Rattle.relay_laws.proofs.Admissions.{door_says}
use Rattle.relay_laws.proofs.OwnThings.{each_thing, among_own}
use Rattle.relay_laws.proofs.Begun.{begun}
use Rattle.retry_plan.specs.Plans.{last_of}
use Rattle.program_door.specs.declared.stages.DoorStage.{DoorStage as AtStage}
use Rattle.program_door.specs.declared.stages.DoorStage.TheVariants as at
use Rattle.program_door.specs.Answers.{as_stage}
use Rattle.program_door.specs.Causes.{door_cause}
use Rattle.program_door.specs.Stands.{is_before}
use Rattle.program_door.specs.Steps.{stage_weight, weight_if}
use Rattle.program_door.proofs.Calling.{not_called}

-- ---- calls at the door's places

called_by : (fork : Bool) (one other k : Call) → fork ≡ true → one ≡ k → cond fork one other ≡ k
called_by true one other k f e = e
called_by false one other k f e = cc

pub called_door : (c : Config) (past : List Act) (k : Call) → has_fork c ≡ true → door_call c past ≡ k → called_at c past program_door ≡ k
called_door c past k fork e = called_by (has_fork c) (door_call c past) (call c past 0) k fork e

pub called_next : (c : Config) (past : List Act) (k : Call) → has_fork c ≡ true → door_call c past ≡ k → called_at c past (next_place c past) ≡ k
called_next c past k fork e = called_by (has_fork c) (door_call c past) (call c past (admitted c past)) k fork e

-- a call is made only while nothing has ended them
busy : (ended : Bool) (other k : Call) → cond ended Nothing other ≡ k → (Nothing ≡ k → ⊥) → ended ≡ false
busy true other k e apart = absurd (apart e)
busy false other k e apart = refl

pub uncut_of : (c : Config) (past : List Act) (k : Call) → door_call c past ≡ k → (Nothing ≡ k → ⊥) → door_cut past ≡ false
uncut_of c past k e apart = (or_parts (not (has_fork c)) (door_cut past) (busy (not (has_fork c) || door_cut past) _ k e apart)).1

listens_first : (ended peer : Bool) (q : Place) (other k : Call) → cond ended Nothing (cond peer (Refuse q) other) ≡ k → (Nothing ≡ k → ⊥) → (Refuse q ≡ k → ⊥) → (peer ≡ false) × (other ≡ k)
listens_first true peer q other k e apart none = absurd (apart e)
listens_first false true q other k e apart none = absurd (none e)
listens_first false false q other k e apart none = (refl, e)

-- another call than a refusal is made only where no refused peer stands, and by the stage of the door
pub free_of : (c : Config) (past : List Act) (k : Call) → door_call c past ≡ k → (Nothing ≡ k → ⊥) → (Refuse (next_place c past) ≡ k → ⊥) → (held past (next_place c past) ≡ false) × (program_door_call c past (stage past program_door) ≡ k)
free_of c past k e apart none = listens_first (not (has_fork c) || door_cut past) (held past (next_place c past)) (next_place c past) (program_door_call c past (stage past program_door)) k e apart none

pub armed_of : (c : Config) (past : List Act) (p : Place) → door_call c past ≡ Accept program_door p → (stage past program_door ≡ Waiting) × (armed_to_accept past program_door ≡ true)
armed_of c past p e = subst (Tells past) e (door_tells c past)

pub held_of_refusal : (c : Config) (past : List Act) (p : Place) → door_call c past ≡ Refuse p → held past p ≡ true
held_of_refusal c past p e = subst (Tells past) e (door_tells c past)

pub held_of_service : (c : Config) (past : List Act) (d : Place) → door_call c past ≡ Serve d → held past d ≡ true
held_of_service c past d e = subst (Tells past) e (door_tells c past)

pub more_wanted : (c : Config) (past : List Act) (d p : Place) → door_call c past ≡ Accept d p → admitted c past < (door_options c).sessions.stop_after
more_wanted c past d p e = let t = subst (DoorTells c past) e (door_says c past) in leb-false (door_options c).sessions.stop_after (admitted c past) t.2

-- ---- cuts

cut_by_accept : (m s a : Bool) → (m || s || a) ≡ false → first_some (only_if m whys.Memory ∷ only_if s whys.Stopped ∷ only_if true whys.AcceptFailed ∷ []) ≡ Some whys.AcceptFailed
cut_by_accept true s a e = cc
cut_by_accept false true a e = cc
cut_by_accept false false a e = refl

pub cut_after_failure : (past : List Act) → door_cut past ≡ false → door_cause (AcceptFailed program_door ∷ past) ≡ Some whys.AcceptFailed
cut_after_failure past e = cut_by_accept (memory_said past) (stop_said past) (accept_failed past program_door) e

-- ---- closings that end no session

unended_by : (b : Bool) (why : Why) (o : Option Why) → cond (b && false) (Some why) o ≡ o
unended_by true why o = refl
unended_by false why o = refl

pub unended_by_refusal : (c : Config) (past : List Act) (q : Place) (s : ℕ) → closed_why c (Closed q whys.Refused ∷ past) s ≡ closed_why c past s
unended_by_refusal c past q s = unended_by (is_of c s q) whys.Refused (closed_why c past s)

pub unended_by_service : (c : Config) (past : List Act) (s : ℕ) → closed_why c (Closed program_door whys.Served ∷ past) s ≡ closed_why c past s
unended_by_service c past s = unended_by (is_of c s program_door) whys.Served (closed_why c past s)

-- ---- what is held

pub free_after : (past : List Act) (q : Place) (why : Why) → held (Closed q why ∷ past) q ≡ false
free_after past q why = go (same_place q q) (same_place_self q)
  where
    go : (b : Bool) → b ≡ true → holds_at (cond b (stages.Gone why) (stage past q)) ≡ false
    go true e = refl
    go false e = cc

pub met_after : (past : List Act) (q : Place) (peer : Peer) → held (Accepted q peer ∷ past) q ≡ true
met_after past q peer = go (same_place q q) (same_place_self q)
  where
    go : (b : Bool) → b ≡ true → holds_at (cond b (Met peer) (stage past q)) ≡ true
    go true e = refl
    go false e = cc

pub kept_stage : (b : Bool) (one other : Stage) → b ≡ false → other ≡ cond b one other
kept_stage true one other e = cc
kept_stage false one other e = refl

pub kept_held : (b : Bool) (one other : Stage) → b ≡ false → holds_at other ≡ holds_at (cond b one other)
kept_held true one other e = cc
kept_held false one other e = refl

-- ---- numbers beyond the next

begun_of : (fork : Bool) (a : ℕ) → fork ≡ true → cond fork a 1 ≡ a
begun_of true a e = refl
begun_of false a e = cc

pub numbers_are : (c : Config) (past : List Act) → has_fork c ≡ true → numbers c past ≡ admitted c past
numbers_are c past fork = begun_of (has_fork c) (admitted c past) fork

-- nothing is held of a number beyond the next
pub free_beyond : (c : Config) (n : ℕ) (past : List Act) (p : Place) → Legal c n past → has_fork c ≡ true → admitted c past < p.session → held past p ≡ false
free_beyond c n past p legal fork far = false_from_ne_true (held past p) (λ h. let b = begun c n past p legal h in let e = numbers_are c past fork in let x : ⊥ = omega (arith, b, e, far) in x)

more : (b : Bool) (n : ℕ) → n ≤ one_more b n
more true n = omega arith
more false n = omega arith

closed_step : (b : Bool) (why : Why) (o : Option Why) → (b ≡ true → ⊥) → o ≡ None → cond b (Some why) o ≡ None
closed_step true why o apart e = absurd (apart refl)
closed_step false why o apart e = e

-- no closing ended a session of a number beyond the next
pub unclosed_beyond : (c : Config) (n : ℕ) (past : List Act) (s : ℕ) → Legal c n past → has_fork c ≡ true → admitted c past < s → closed_why c past s ≡ None
unclosed_beyond c n [] s legal fork far = refl
unclosed_beyond c n (Closed q why ∷ past) s legal fork far =
    closed_step (is_of c s q && is_end q why) why (closed_why c past s)
    (λ e. let o = among_own c s q (things c s) (each_thing c s) (and_parts (is_of c s q) (is_end q why) e).0 in
    let b = begun c n past q legal.1 legal.0.is_held in
    let m = numbers_are c past fork in
    let k = o.0 in
    omega (arith, k, b, m, far))
    (unclosed_beyond c n past s legal.1 fork far)
unclosed_beyond c n (Accepted q peer ∷ past) s legal fork far =
    let m = more (is_admission c q peer) (admitted c past) in
    unclosed_beyond c n past s legal.1 fork (omega (arith, m, far))
unclosed_beyond c n (Turn until at ready stop ∷ past) s legal fork far = unclosed_beyond c n past s legal.1 fork far
unclosed_beyond c n (act ∷ past) s legal fork far = unclosed_beyond c n past s legal.1 fork far

-- ---- a peer

admits : (fork b : Bool) → fork ≡ true → (fork && b) ≡ b
admits true b e = refl
admits false b e = cc

-- a peer of the next place is admitted where the filter permits it
pub admission_is : (c : Config) (past : List Act) (peer : Peer) → has_fork c ≡ true → is_admission c (next_place c past) peer ≡ is_permitted (options_of c (next_place c past)).admission peer
admission_is c past peer fork = admits (has_fork c) (permits c (next_place c past) peer) fork

pub admitted_more : (c : Config) (past : List Act) (peer : Peer) → is_admission c (next_place c past) peer ≡ true → admitted c (Accepted (next_place c past) peer ∷ past) ≡ suc (admitted c past)
admitted_more c past peer e = ap (λ b. one_more b (admitted c past)) e

pub admitted_same : (c : Config) (past : List Act) (peer : Peer) → is_admission c (next_place c past) peer ≡ false → admitted c (Accepted (next_place c past) peer ∷ past) ≡ admitted c past
admitted_same c past peer e = ap (λ b. one_more b (admitted c past)) e

-- the place after the next isn't the next
pub places_differ : (a b : ℕ) (part : Part) → a < b → same_place (place_at a Left part) (place_at b Left part) ≡ false
places_differ a b part h = false_from_ne_true (same_place (place_at a Left part) (place_at b Left part)) (λ e. let x = ap (λ p. p.session) (same_place_equal (place_at a Left part) (place_at b Left part) e) in let y : ⊥ = omega (arith, x, h) in y)

-- after an admission nothing is held at the next place
pub free_after_admission : (c : Config) (n : ℕ) (past : List Act) (peer : Peer) → Legal c n past → has_fork c ≡ true → held (Accepted (next_place c past) peer ∷ past) (place_at (suc (admitted c past)) Left (first_part (parts c Left))) ≡ false
free_after_admission c n past peer legal fork =
    sym (kept_held (same_place (next_place c past) (place_at (suc (admitted c past)) Left (first_part (parts c Left)))) (Met peer) (stage past (place_at (suc (admitted c past)) Left (first_part (parts c Left)))) (places_differ (admitted c past) (suc (admitted c past)) (first_part (parts c Left)) (omega arith)))
    ∙ free_beyond c n past (place_at (suc (admitted c past)) Left (first_part (parts c Left))) legal fork (omega arith)

pub door_asked : (c : Config) (past : List Act) (peer : Peer) → has_fork c ≡ true → asked_to_accept c (Accepted (next_place c past) peer ∷ past) program_door ≡ true
door_asked c past peer fork = go (has_fork c) fork
  where
    go : (b : Bool) → b ≡ true → (same_place (cond b program_door (record { session = admitted c past; side = Left; part = first_part (parts c Left); door = true })) program_door || asked_to_accept c past program_door) ≡ true
    go true e = refl
    go false e = cc

-- ---- steps that are left

pub fewer_accepts : (w r : ℕ) (armed asked : Bool) → armed ≡ true → asked ≡ false → w + 0 + r < w + weight_if (armed && not asked) 2 + r
fewer_accepts w r true false x y = omega arith
fewer_accepts w r true true x y = cc
fewer_accepts w r false asked x y = cc

pub fewer_tries : (w r : ℕ) (armed asked : Bool) → armed ≡ true → asked ≡ false → w + weight_if (armed && false) 2 + r < w + weight_if (armed && not asked) 2 + r
fewer_tries w r true false x y = omega arith
fewer_tries w r true true x y = cc
fewer_tries w r false asked x y = cc

pub fewer_peers : (w : ℕ) (armed asked refused : Bool) → armed ≡ true → asked ≡ false → w + weight_if (armed && false) 2 + 1 < w + weight_if (armed && not asked) 2 + weight_if refused 1
fewer_peers w true false true x y = omega arith
fewer_peers w true false false x y = omega arith
fewer_peers w true true refused x y = cc
fewer_peers w false asked refused x y = cc

pub fewer_refused : (w a : ℕ) (refused : Bool) → refused ≡ true → w + a + 0 < w + a + weight_if refused 1
fewer_refused w a true x = omega arith
fewer_refused w a false x = cc

pub door_weight : (st : AtStage) (tried : Bool) → holds_at (as_stage st) ≡ true → stage_weight st tried ≡ 1
door_weight at.Untried tried e = cc
door_weight at.Failed tried e = cc
door_weight at.Waiting tried e = refl
door_weight (at.Gone why) tried e = cc

waits : (c : Config) (past : List Act) (enough full armed : Bool) (d p : Place) → cond enough (Serve d) (cond full Nothing (cond armed (Accept d p) Nothing)) ≡ Listen d → ⊥
waits c past true full armed d p e = cc
waits c past false true armed d p e = cc
waits c past false false true d p e = cc
waits c past false false false d p e = cc

pub record CanListen (st : AtStage) (tried : Bool) : Type 0 where
  pub weight : stage_weight st tried ≡ 4
  pub before : is_before st ≡ true

pub can_listen : (c : Config) (past : List Act) (st : AtStage) (tried : Bool) → as_stage st ≡ stage past program_door → (tried ≡ true → last_of (failures past program_door) ≡ Some (now past)) → door_call c past ≡ Listen program_door → CanListen st tried
can_listen c past st tried same last e = go st tried same last (free_of c past (Listen program_door) e (λ x. cc) (λ x. cc)).1
  where
    go : (st : AtStage) (tried : Bool) → as_stage st ≡ stage past program_door → (tried ≡ true → last_of (failures past program_door) ≡ Some (now past)) → program_door_call c past (stage past program_door) ≡ Listen program_door → CanListen st tried
    go at.Untried tried same last e = record { weight = refl; before = refl }
    go at.Failed true same last e = absurd (not_called c past (last refl) (sym same) e)
    go at.Failed false same last e = record { weight = refl; before = refl }
    go at.Waiting tried same last e = absurd (waits c past (enough c past) (full c past) (armed_to_accept past program_door) program_door (next_place c past) (ap (program_door_call c past) same ∙ e))
    go (at.Gone why) tried same last e = let x : Nothing ≡ Listen program_door = ap (program_door_call c past) same ∙ e in cc

-- a door that listens doesn't begin to any more
pub listens_already : (st : AtStage) (at_now : Stage) → as_stage st ≡ at_now → at_now ≡ Waiting → is_before st ≡ true → ⊥
listens_already at.Untried s e w h = let x : as_stage at.Untried ≡ Waiting = e ∙ w in cc
listens_already at.Failed s e w h = let x : as_stage at.Failed ≡ Waiting = e ∙ w in cc
listens_already at.Waiting s e w h = false≢true h
listens_already (at.Gone why) s e w h = false≢true h

pub asked_not : (armed asked : Bool) → asked ≡ false → (armed && asked) ≡ false
asked_not true asked e = e
asked_not false asked e = refl

pub armed_asked : (armed asked : Bool) → armed ≡ true → asked ≡ true → true ≡ (armed && asked)
armed_asked true true x y = refl
armed_asked true false x y = cc
armed_asked false asked x y = cc

pub or_true : (a b : Bool) → a ≡ true → (a || b) ≡ true
or_true true b e = refl
or_true false b e = cc

pub or_uncut : (a : Bool) (o : Option Why) → o ≡ None → (a || is_none o) ≡ true
or_uncut true o e = refl
or_uncut false None e = refl
or_uncut false (Some why) e = cc

-- nothing has ended the calls of a door that calls for something
none_said : (m s a : Bool) → (m || s || a) ≡ false → first_some (only_if m whys.Memory ∷ only_if s whys.Stopped ∷ only_if a whys.AcceptFailed ∷ []) ≡ None
none_said true s a e = cc
none_said false true a e = cc
none_said false false true e = cc
none_said false false false e = refl

pub no_cause : (past : List Act) → door_cut past ≡ false → door_cause past ≡ None
no_cause past e = none_said (memory_said past) (stop_said past) (accept_failed past program_door) e

pub held_door : (st : AtStage) (s : Stage) → as_stage st ≡ s → holds_at s ≡ true → holds_at (as_stage st) ≡ true
held_door st s e h = ap holds_at e ∙ h

-- a listening may be followed by an accepting, which counts less
pub fewer_listens : (w r : ℕ) (armed asked : Bool) → w ≡ 4 → 1 + weight_if (true && not asked) 2 + r < w + weight_if (armed && not asked) 2 + r
fewer_listens w r armed true e = omega (arith, e)
fewer_listens w r armed false e = omega (arith, e)
