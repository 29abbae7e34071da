-- What a call says of the opening that it is for, and that an answer to it lowers the number of calls that are left.
use Rattle.std.proofs.Common.{◌≡◌, ℕ, ◌^◌, ◌<◌, Bool, true, false, not, ◌&&◌, ◌||◌, nat_lt, nat_le, if◌then◌else◌, List, [], ◌∷◌, Some, None, ◌⊎◌, inl, inr, refl, sym, ap, subst, ◌∙◌, arith}
use Rattle.std.proofs.lemmas.Grind.{common_steps}
use Rattle.std.proofs.lemmas.Bool.{and_parts, and_from, or_cases}
use Rattle.std.proofs.lemmas.Bool.Decides.{nat_tests}
use Rattle.relay_model.specs.declared.places.Place.{Place}
use Rattle.relay_model.specs.declared.commands.Config.{Config}
use Rattle.relay_model.specs.declared.acts.Act.{Act}
use Rattle.relay_model.specs.declared.acts.Why.{Why}
use Rattle.relay_model.specs.Places.{same_place, door_of}
use Rattle.relay_model.specs.Tries.{next_due, moment_of_try}
use Rattle.relay_model.specs.Configs.{places, options_of, listens_at, has_own_door, is_of}
use Rattle.relay_model.specs.History.{now, holds_at, stage, held, failures, woken}
use Rattle.relay_model.specs.declared.stages.Stage.{Stage}
use Rattle.relay_model.specs.declared.stages.Stage.TheVariants.{Untried, Unsettled, Failed, Met, Waiting}
use Rattle.relay_model.specs.Arming.{armed_to_accept, asked_to_accept}
use Rattle.relay_model.specs.Sessions.{permits}
use Rattle.relay_model.specs.Openings.{is_ready, when_due, try_again, out_of_tries, opening_call, listening_call, peer_call, place_call, first_call}
use Rattle.relay_model.specs.declared.calls.Call.{Call}
use Rattle.relay_model.specs.declared.calls.Call.TheVariants.{Nothing, TryAt, Open, Settle, Listen, Accept, Refuse, Serve}
use Rattle.retry_plan.specs.Plans.{last_of}
use Rattle.place_openings.specs.declared.one_place.Opening.{Opening}
use Rattle.place_openings.specs.Stands.{IsOpening, Each, AreOpenings, tried_at}
use Rattle.place_openings.specs.Queries.{first_of, child_by}
use Rattle.place_openings.specs.Steps.{stage_weight, steps_in, is_place, is_own_door, asks_child}
use Rattle.place_openings.specs.Moves.{AtPlace, AtDoor, Elsewhere, Apart, CanOpen, CanListen, Lower, Weighed, SomeLower, TookEach}
use Rattle.place_openings.specs.declared.steps.OpeningStep.{OpeningStep}
use Rattle.place_openings.specs.declared.steps.OpeningStep.TheVariants as steps
use Rattle.place_openings.proofs.PlaceLemmas.{same_place_equal, same_place_self, apart_by_door}
use Rattle.place_openings.proofs.Asked.{or_some, only_some, some_thing, some_thing_step, things_are}
use Rattle.place_openings.proofs.Lifting.{lowered}

-- ---- what a call says

abbrev MeansAt : Place → Opening → Call → Type 0
MeansAt p o Nothing = Unit {0}
MeansAt p o (TryAt m) = Unit {0}
MeansAt p o (Open q) = (q ≡ p) × (o.has_door ≡ false) × CanOpen o
MeansAt p o (Settle q) = (q ≡ p) × (o.has_door ≡ false) × CanOpen o
MeansAt p o (Listen d) = (d ≡ door_of p) × (o.has_door ≡ true) × CanListen o
MeansAt p o (Accept d q) = (d ≡ door_of p) × (q ≡ p) × (o.has_door ≡ true)
MeansAt p o (Refuse q) = (q ≡ p) × (holds_at o.stage ≡ true)
MeansAt p o (Serve d) = (d ≡ door_of p) × (o.has_door ≡ true) × (holds_at o.door ≡ true)

either_way : (P : Call → Type 0) (b : Bool) (x y : Call) → (b ≡ true → P x) → (b ≡ false → P y) → P (if b then x else y)
either_way P true x y f g = f refl
either_way P false x y f g = g refl

too_early : (interval f at : ℕ) → f ≡ at → nat_le (moment_of_try interval f) at ≡ false
too_early interval f at e = grind (arith, nat_tests)

some_equal : (a b : ℕ) → Some a ≡ Some b → a ≡ b
some_equal a b e = cc

-- a further try is none that follows a failure within a turn
due_means : (P : Call → Type 0) (interval at : ℕ) (fs : List ℕ) (tried : Bool) (wanted : Call) → P Nothing → ((m : ℕ) → P (TryAt m)) → (tried ≡ true → last_of fs ≡ Some at) → (tried ≡ false → P wanted) → P (when_due at (next_due interval fs) wanted)
due_means P interval at [] true wanted n t last w = absurd (cc (last refl))
due_means P interval at [] false wanted n t last w = either_way P (nat_le 0 at) wanted (TryAt 0) (λ _. w refl) (λ _. t 0)
due_means P interval at (f ∷ fs) tried wanted n t last w = some_moment (nat_lt (moment_of_try interval f) (2 ^ 64))
  where
    due_at : P (when_due at (Some (moment_of_try interval f)) wanted)
    due_at = either_way P (nat_le (moment_of_try interval f) at) wanted (TryAt (moment_of_try interval f)) (λ early. w (untried tried (λ h. last h) early)) (λ _. t (moment_of_try interval f))
      where
        untried : (b : Bool) → (b ≡ true → Some f ≡ Some at) → nat_le (moment_of_try interval f) at ≡ true → b ≡ false
        untried true l early = let e = too_early interval f at (some_equal f at (l refl)) in cc
        untried false l early = refl

    some_moment : (b : Bool) → P (when_due at (if b then Some (moment_of_try interval f) else None) wanted)
    some_moment true = due_at
    some_moment false = n

again_means : (P : Call → Type 0) (c : Config) (past : List Act) (q : Place) (tried : Bool) (wanted : Call) → P Nothing → ((m : ℕ) → P (TryAt m)) → (tried ≡ true → last_of (failures past q) ≡ Some (now past)) → (tried ≡ false → P wanted) → P (try_again c past q wanted)
again_means P c past q tried wanted n t last w =
    either_way P (out_of_tries c past q) Nothing (when_due (now past) (next_due (options_of c q).tries.interval (failures past q)) wanted) (λ _. n) (λ _. due_means P (options_of c q).tries.interval (now past) (failures past q) tried wanted n t last w)

tried_place : (c : Config) (past : List Act) (p : Place) (o : Opening) (b : Bool) → IsOpening c past p o → o.has_door ≡ b → o.tried ≡ true → last_of (failures past (tried_at b p)) ≡ Some (now past)
tried_place c past p o b i e t = subst (λ x. last_of (failures past (tried_at x p)) ≡ Some (now past)) e (i.tried_is t)

weight_is : (o : Opening) (st : Stage) → st ≡ o.stage → stage_weight st o.woken o.tried ≡ 2 → CanOpen o
weight_is o st e w = subst (λ x. stage_weight x o.woken o.tried ≡ 2) e w

door_weight_is : (o : Opening) (st : Stage) → st ≡ o.door → stage_weight st false o.tried ≡ 2 → CanListen o
door_weight_is o st e w = subst (λ x. stage_weight x false o.tried ≡ 2) e w

opening_means : (c : Config) (past : List Act) (p : Place) (o : Opening) → IsOpening c past p o → o.has_door ≡ false → (st : Stage) → st ≡ o.stage → MeansAt p o (opening_call c past p st)
opening_means c past p o i hd Untried e = (refl, hd, weight_is o Untried e refl)
opening_means c past p o i hd Unsettled e =
    either_way (MeansAt p o) (woken past p) (Settle p) Nothing (λ w. (refl, hd, weight_is o Unsettled e (rw (i.woken_is, w) refl))) (λ _. tt)
opening_means c past p o i hd Failed e =
    again_means (MeansAt p o) c past p o.tried (Open p) tt (λ m. tt) (tried_place c past p o false i hd) (λ t. (refl, hd, weight_is o Failed e (rw t refl)))
opening_means c past p o i hd other e = tt

listening_means : (c : Config) (past : List Act) (p : Place) (o : Opening) → IsOpening c past p o → o.has_door ≡ true → (st : Stage) → st ≡ o.door → MeansAt p o (listening_call c past (door_of p) p st)
listening_means c past p o i hd Untried e = (refl, hd, door_weight_is o Untried e refl)
listening_means c past p o i hd Failed e =
    again_means (MeansAt p o) c past (door_of p) o.tried (Listen (door_of p)) tt (λ m. tt) (tried_place c past p o true i hd) (λ t. (refl, hd, door_weight_is o Failed e (rw t refl)))
listening_means c past p o i hd Waiting e =
    either_way (MeansAt p o) (armed_to_accept past (door_of p)) (Accept (door_of p) p) Nothing (λ _. (refl, refl, hd)) (λ _. tt)
listening_means c past p o i hd other e = tt

peer_means : (c : Config) (past : List Act) (p : Place) (o : Opening) → IsOpening c past p o → o.has_door ≡ true → (st : Stage) → st ≡ o.stage → MeansAt p o (peer_call c past p st)
peer_means c past p o i hd (Met peer) e =
    either_way (MeansAt p o) (permits c p peer) (if held past (door_of p) then Serve (door_of p) else Nothing) (Refuse p) (λ _. either_way (MeansAt p o) (held past (door_of p)) (Serve (door_of p)) Nothing (λ h. (refl, hd, ap holds_at (i.door_is hd) ∙ h)) (λ _. tt)) (λ _. (refl, ap holds_at (sym e)))
peer_means c past p o i hd other e =
    subst (λ x. MeansAt p o (listening_call c past (door_of p) p x)) (i.door_is hd) (listening_means c past p o i hd o.door refl)

means : (c : Config) (past : List Act) (p : Place) (o : Opening) → IsOpening c past p o → MeansAt p o (place_call c past p)
means c past p o i =
    either_way (MeansAt p o) (has_own_door c p) (peer_call c past p (stage past p)) (if listens_at c p then Nothing else opening_call c past p (stage past p)) (λ h. subst (λ x. MeansAt p o (peer_call c past p x)) i.stage_is (peer_means c past p o i (i.has_door_is ∙ h) o.stage refl)) (λ h. either_way (MeansAt p o) (listens_at c p) Nothing (opening_call c past p (stage past p)) (λ _. tt) (λ _. subst (λ x. MeansAt p o (opening_call c past p x)) i.stage_is (opening_means c past p o i (i.has_door_is ∙ h) o.stage refl)))

pub asked_is : (c : Config) (past : List Act) (p : Place) (o : Opening) → IsOpening c past p o → (door place : Place) → place_call c past p ≡ Accept door place → o.asked ≡ asked_to_accept c past door
asked_is c past p o i door place e =
    let m = subst (MeansAt p o) e (means c past p o i) in
    rw m.0 (i.asked_is m.2)

-- ---- answers to a call

-- the step is an answer to this call
abbrev pub Fulfils : Config → List Act → OpeningStep → Call → Type 0
Fulfils c past (steps.Opened q) (Open r) = q ≡ r
Fulfils c past (steps.Opened q) (Settle r) = q ≡ r
Fulfils c past (steps.OpenedLater q) (Open r) = q ≡ r
Fulfils c past (steps.OpenedLater q) (Settle r) = q ≡ r
Fulfils c past (steps.OpenFailed q at) (Open r) = q ≡ r
Fulfils c past (steps.OpenFailed q at) (Settle r) = q ≡ r
Fulfils c past (steps.Listening d) (Listen e) = d ≡ e
Fulfils c past (steps.ListenFailed d at) (Listen e) = d ≡ e
Fulfils c past (steps.Accepted q peer) (Accept e r) = (q ≡ r) × (asked_to_accept c past e ≡ false)
Fulfils c past (steps.NoPeer d) (Accept e r) = (d ≡ e) × (asked_to_accept c past e ≡ false)
Fulfils c past (steps.AcceptFailed d) (Accept e r) = (d ≡ e) × (asked_to_accept c past e ≡ false)
Fulfils c past (steps.Closed q why) (Refuse r) = q ≡ r
Fulfils c past (steps.Closed d why) (Serve e) = d ≡ e
Fulfils c past step call = ⊥

place_no_door : (q d : Place) → q.door ≡ false → d.door ≡ true → same_place q d ≡ false
place_no_door q d x y = grind (arith, common_steps)

and_false : (b x : Bool) → x ≡ false → (b && x) ≡ false
and_false true x e = e
and_false false x e = refl

at_place : (c : Config) (past : List Act) (p : Place) (o : Opening) → IsOpening c past p o → (q : Place) → q ≡ p → AtPlace q o
at_place c past p o i q e =
    record {
      is_there = rw (i.place_is, e) (same_place_self p);
      no_door = and_false o.has_door (same_place q (door_of o.place)) (place_no_door q (door_of o.place) (ap (λ (x : Place). x.door) e ∙ i.no_door) refl);
    }

at_door : (c : Config) (past : List Act) (p : Place) (o : Opening) → IsOpening c past p o → (d : Place) → d ≡ door_of p → o.has_door ≡ true → AtDoor d o
at_door c past p o i d e h =
    record {
      no_place = apart_by_door d o.place (ap (λ (x : Place). x.door) e) (ap (λ (x : Place). x.door) i.place_is ∙ i.no_door);
      is_there = rw (h, i.place_is, e) (same_place_self (door_of p));
    }

not_asked : (c : Config) (past : List Act) (p : Place) (o : Opening) → IsOpening c past p o → (d : Place) → d ≡ door_of p → o.has_door ≡ true → asked_to_accept c past d ≡ false → o.asked ≡ false
not_asked c past p o i d e h a = i.asked_is h ∙ (ap (asked_to_accept c past) (sym e) ∙ a)

lower_by : (c : Config) (past : List Act) (p : Place) (o : Opening) → IsOpening c past p o → (step : OpeningStep) (call : Call) → MeansAt p o call → Fulfils c past step call → Lower step o
lower_by c past p o i (steps.Opened q) (Open r) m f = (at_place c past p o i q (f ∙ m.0), m.2)
lower_by c past p o i (steps.Opened q) (Settle r) m f = (at_place c past p o i q (f ∙ m.0), m.2)
lower_by c past p o i (steps.OpenedLater q) (Open r) m f = (at_place c past p o i q (f ∙ m.0), m.2)
lower_by c past p o i (steps.OpenedLater q) (Settle r) m f = (at_place c past p o i q (f ∙ m.0), m.2)
lower_by c past p o i (steps.OpenFailed q at) (Open r) m f = (at_place c past p o i q (f ∙ m.0), m.1, m.2)
lower_by c past p o i (steps.OpenFailed q at) (Settle r) m f = (at_place c past p o i q (f ∙ m.0), m.1, m.2)
lower_by c past p o i (steps.Listening d) (Listen e) m f = (at_door c past p o i d (f ∙ m.0) m.1, m.2)
lower_by c past p o i (steps.ListenFailed d at) (Listen e) m f = (at_door c past p o i d (f ∙ m.0) m.1, m.2)
lower_by c past p o i (steps.Accepted q peer) (Accept e r) m f = (at_place c past p o i q (f.0 ∙ m.1), m.2, not_asked c past p o i e m.0 m.2 f.1)
lower_by c past p o i (steps.NoPeer d) (Accept e r) m f = (at_door c past p o i d (f.0 ∙ m.0) m.2, not_asked c past p o i e m.0 m.2 f.1)
lower_by c past p o i (steps.AcceptFailed d) (Accept e r) m f = (at_door c past p o i d (f.0 ∙ m.0) m.2, not_asked c past p o i e m.0 m.2 f.1)
lower_by c past p o i (steps.Closed q why) (Refuse r) m f = inl (at_place c past p o i q (f ∙ m.0), m.1)
lower_by c past p o i (steps.Closed d why) (Serve e) m f = inr (at_door c past p o i d (f ∙ m.0) m.1, m.2)
lower_by c past p o i step call m f = absurd f

-- an opening of another place is apart
away : (c : Config) (past : List Act) (p q : Place) (o : Opening) → IsOpening c past p o → q.door ≡ false → same_place q p ≡ false → Elsewhere q o
away c past p q o i no_door other =
    record {
      no_place = rw i.place_is other;
      no_door = and_false o.has_door (same_place q (door_of o.place)) (place_no_door q (door_of o.place) no_door refl);
    }

doors_apart : (q p : Place) → q.door ≡ false → p.door ≡ false → same_place q p ≡ false → same_place (door_of q) (door_of p) ≡ false
doors_apart q p x y other = grind (arith, common_steps)

away_door : (c : Config) (past : List Act) (p q : Place) (o : Opening) → IsOpening c past p o → q.door ≡ false → same_place q p ≡ false → Elsewhere (door_of q) o
away_door c past p q o i no_door other =
    record {
      no_place = apart_by_door (door_of q) o.place refl (ap (λ (x : Place). x.door) i.place_is ∙ i.no_door);
      no_door = and_false o.has_door (same_place (door_of q) (door_of o.place)) (rw i.place_is (doors_apart q p no_door i.no_door other));
    }

apart_by : (c : Config) (past : List Act) (q : Place) (x o : Opening) → Elsewhere q o → Elsewhere (door_of q) o → (step : OpeningStep) (call : Call) → MeansAt q x call → Fulfils c past step call → Apart step o
apart_by c past q x o a d (steps.Opened r) (Open s) m f = subst (λ y. Elsewhere y o) (sym (f ∙ m.0)) a
apart_by c past q x o a d (steps.Opened r) (Settle s) m f = subst (λ y. Elsewhere y o) (sym (f ∙ m.0)) a
apart_by c past q x o a d (steps.OpenedLater r) (Open s) m f = subst (λ y. Elsewhere y o) (sym (f ∙ m.0)) a
apart_by c past q x o a d (steps.OpenedLater r) (Settle s) m f = subst (λ y. Elsewhere y o) (sym (f ∙ m.0)) a
apart_by c past q x o a d (steps.OpenFailed r at) (Open s) m f = subst (λ y. Elsewhere y o) (sym (f ∙ m.0)) a
apart_by c past q x o a d (steps.OpenFailed r at) (Settle s) m f = subst (λ y. Elsewhere y o) (sym (f ∙ m.0)) a
apart_by c past q x o a d (steps.Listening r) (Listen s) m f = subst (λ y. Elsewhere y o) (sym (f ∙ m.0)) d
apart_by c past q x o a d (steps.ListenFailed r at) (Listen s) m f = subst (λ y. Elsewhere y o) (sym (f ∙ m.0)) d
apart_by c past q x o a d (steps.Accepted r peer) (Accept s t) m f = subst (λ y. Elsewhere y o) (sym (f.0 ∙ m.1)) a
apart_by c past q x o a d (steps.NoPeer r) (Accept s t) m f = subst (λ y. Elsewhere y o) (sym (f.0 ∙ m.0)) d
apart_by c past q x o a d (steps.AcceptFailed r) (Accept s t) m f = subst (λ y. Elsewhere y o) (sym (f.0 ∙ m.0)) d
apart_by c past q x o a d (steps.Closed r why) (Refuse s) m f = subst (λ y. Elsewhere y o) (sym (f ∙ m.0)) a
apart_by c past q x o a d (steps.Closed r why) (Serve s) m f = subst (λ y. Elsewhere y o) (sym (f ∙ m.0)) d
apart_by c past q x o a d step call m f = absurd f

-- the place that calls
record Caller (c : Config) (past : List Act) (call : Call) (os : List Opening) : Type 0 where
  place : Place
  state : Opening
  is : IsOpening c past place state
  calls : place_call c past place ≡ call
  among : (step : OpeningStep) → Lower step state → SomeLower step os

caller : (c : Config) (past : List Act) (ps : List Place) (os : List Opening) → Each c past ps os → (Caller c past (first_call c past ps) os) ⊎ (first_call c past ps ≡ Nothing)
caller c past [] os each = inr refl
caller c past (p ∷ ps) [] each = absurd each
caller c past (p ∷ ps) (o ∷ os) each = go (is_ready c past p) (caller c past ps os each.1)
  where
    go : (b : Bool) → (Caller c past (first_call c past ps) os) ⊎ (first_call c past ps ≡ Nothing) → (Caller c past (if b then first_call c past ps else place_call c past p) (o ∷ os)) ⊎ ((if b then first_call c past ps else place_call c past p) ≡ Nothing)
    go true (inl k) = inl (record { place = k.place; state = k.state; is = k.is; calls = k.calls; among = λ step l. inr (k.among step l) })
    go true (inr n) = inr n
    go false rest = inl (record { place = p; state = o; is = each.0; calls = refl; among = λ step l. inl l })

weigh : (c : Config) (past : List Act) (q : Place) (x : Opening) → IsOpening c past q x → (step : OpeningStep) → Fulfils c past step (place_call c past q) → (p : Place) (o : Opening) → IsOpening c past p o → Apart step o ⊎ Lower step o
weigh c past q x k step f p o i = go (same_place q p) refl
  where
    go : (b : Bool) → same_place q p ≡ b → Apart step o ⊎ Lower step o
    go true e =
        let same = same_place_equal q p e in
        inr (lower_by c past p o i step (place_call c past p) (means c past p o i) (subst (λ y. Fulfils c past step (place_call c past y)) same f))
    go false e =
        inl (apart_by c past q x o (away c past p q o i k.no_door e) (away_door c past p q o i k.no_door e) step (place_call c past q) (means c past q x k) f)

weighed : (c : Config) (past : List Act) (step : OpeningStep) → ((p : Place) (o : Opening) → IsOpening c past p o → Apart step o ⊎ Lower step o) → (ps : List Place) (os : List Opening) → Each c past ps os → Weighed step os
weighed c past step w ps [] each = tt
weighed c past step w [] (o ∷ os) each = absurd each
weighed c past step w (p ∷ ps) (o ∷ os) each = (w p o each.0, weighed c past step w ps os each.1)

no_answer : (c : Config) (past : List Act) (step : OpeningStep) → Fulfils c past step Nothing → ⊥
no_answer c past (steps.Opened q) f = f
no_answer c past (steps.OpenedLater q) f = f
no_answer c past (steps.OpenFailed q at) f = f
no_answer c past (steps.Listening d) f = f
no_answer c past (steps.ListenFailed d at) f = f
no_answer c past (steps.Accepted q peer) f = f
no_answer c past (steps.NoPeer d) f = f
no_answer c past (steps.AcceptFailed d) f = f
no_answer c past (steps.Closed q why) f = f
no_answer c past (steps.Reaped q) f = f
no_answer c past steps.Woken f = f
no_answer c past (steps.Named entry) f = f

answered_first : (c : Config) (past : List Act) (s : ℕ) (step : OpeningStep) (os ns : List Opening) → AreOpenings c past s os → TookEach step os ns → Fulfils c past step (first_call c past (places c s)) → steps_in ns < steps_in os
answered_first c past s step os ns are took f = go (caller c past (places c s) os are.each)
  where
    go : (Caller c past (first_call c past (places c s)) os) ⊎ (first_call c past (places c s) ≡ Nothing) → steps_in ns < steps_in os
    go (inl k) =
        let g = subst (Fulfils c past step) (sym k.calls) f in
        lowered step os ns took (weighed c past step (weigh c past k.place k.state k.is step g) (places c s) os are.each) (k.among step (lower_by c past k.place k.state k.is step (place_call c past k.place) (means c past k.place k.state k.is) g))
    go (inr n) = absurd (no_answer c past step (subst (Fulfils c past step) n f))

-- a step that answers the first call lowers the number of calls that are left
pub answered : (c : Config) (past : List Act) (s : ℕ) (step : OpeningStep) (call : Call) (os ns : List Opening) → AreOpenings c past s os → TookEach step os ns → first_call c past (places c s) ≡ call → Fulfils c past step call → steps_in ns < steps_in os
answered c past s step call os ns are took e f = answered_first c past s step os ns are took (subst (Fulfils c past step) (sym e) f)

-- ---- closings

-- of a thing, the place or the own door of an opening, or neither
where_is : (c : Config) (past : List Act) (p q : Place) (o : Opening) → IsOpening c past p o → (q ≡ p) ⊎ (((o.has_door ≡ true) × (q ≡ door_of p)) ⊎ Elsewhere q o)
where_is c past p q o i = go (is_place q o) refl (is_own_door q o) refl
  where
    go : (b : Bool) → is_place q o ≡ b → (d : Bool) → is_own_door q o ≡ d → (q ≡ p) ⊎ (((o.has_door ≡ true) × (q ≡ door_of p)) ⊎ Elsewhere q o)
    go true e d f = inl (same_place_equal q o.place e ∙ i.place_is)
    go false e true f =
        let k = and_parts o.has_door (same_place q (door_of o.place)) f in
        inr (inl (k.0, same_place_equal q (door_of o.place) k.1 ∙ ap door_of i.place_is))
    go false e false f = inr (inr (record { no_place = e; no_door = f }))

-- a step at a thing that lowers the opening whose place or own door that is
some_lower : (c : Config) (past : List Act) (q : Place) (step : OpeningStep) → ((p : Place) (o : Opening) → IsOpening c past p o → q ≡ p → Lower step o) → ((p : Place) (o : Opening) → IsOpening c past p o → o.has_door ≡ true → q ≡ door_of p → Lower step o) → (ps : List Place) (os : List Opening) → Each c past ps os → some_thing c (same_place q) ps ≡ true → SomeLower step os
some_lower c past q step f g [] [] each e = absurd cc
some_lower c past q step f g [] (o ∷ os) each e = absurd each
some_lower c past q step f g (p ∷ ps) [] each e = absurd each
some_lower c past q step f g (p ∷ ps) (o ∷ os) each e =
    go (or_cases (same_place q p || has_own_door c p && same_place q (door_of p)) (some_thing c (same_place q) ps) (sym (some_thing_step c (same_place q) p ps) ∙ e)) (some_lower c past q step f g ps os each.1)
  where
    at_one : (same_place q p ≡ true) ⊎ ((has_own_door c p && same_place q (door_of p)) ≡ true) → Lower step o
    at_one (inl h) = f p o each.0 (same_place_equal q p h)
    at_one (inr h) =
        let k = and_parts (has_own_door c p) (same_place q (door_of p)) h in
        g p o each.0 (each.0.has_door_is ∙ k.0) (same_place_equal q (door_of p) k.1)

    go : ((same_place q p || has_own_door c p && same_place q (door_of p)) ≡ true) ⊎ (some_thing c (same_place q) ps ≡ true) → (some_thing c (same_place q) ps ≡ true → SomeLower step os) → SomeLower step (o ∷ os)
    go (inl h) rest = inl (at_one (or_cases (same_place q p) (has_own_door c p && same_place q (door_of p)) h))
    go (inr h) rest = inr (rest h)

closes_place : (c : Config) (past : List Act) (q : Place) (why : Why) (p : Place) (o : Opening) → held past q ≡ true → IsOpening c past p o → q ≡ p → Lower (steps.Closed q why) o
closes_place c past q why p o h i e = inl (at_place c past p o i q e, ap holds_at i.stage_is ∙ (ap (held past) (sym e) ∙ h))

closes_door : (c : Config) (past : List Act) (q : Place) (why : Why) (p : Place) (o : Opening) → held past q ≡ true → IsOpening c past p o → o.has_door ≡ true → q ≡ door_of p → Lower (steps.Closed q why) o
closes_door c past q why p o h i d e =
    inr (at_door c past p o i q e d, ap holds_at (i.door_is d) ∙ (ap (held past) (sym e) ∙ h))

-- the closing of a held thing lowers it
pub closed_held : (c : Config) (past : List Act) (s : ℕ) (q : Place) (why : Why) (os ns : List Opening) → AreOpenings c past s os → TookEach (steps.Closed q why) os ns → held past q ≡ true → is_of c s q ≡ true → steps_in ns < steps_in os
closed_held c past s q why os ns are took h own =
    lowered (steps.Closed q why) os ns took (weighed c past (steps.Closed q why) one (places c s) os are.each) (some_lower c past q (steps.Closed q why) (λ p o i e. closes_place c past q why p o h i e) (λ p o i d e. closes_door c past q why p o h i d e) (places c s) os are.each (sym (things_are c (same_place q) s) ∙ own))
  where
    by : (p : Place) (o : Opening) → IsOpening c past p o → (q ≡ p) ⊎ (((o.has_door ≡ true) × (q ≡ door_of p)) ⊎ Elsewhere q o) → Apart (steps.Closed q why) o ⊎ Lower (steps.Closed q why) o
    by p o i (inl e) = inr (closes_place c past q why p o h i e)
    by p o i (inr (inl k)) = inr (closes_door c past q why p o h i k.0 k.1)
    by p o i (inr (inr a)) = inl a

    one : (p : Place) (o : Opening) → IsOpening c past p o → Apart (steps.Closed q why) o ⊎ Lower (steps.Closed q why) o
    one p o i = by p o i (where_is c past p q o i)

-- ---- children that are asked for

asks_each : (q : Place) (os : List Opening) → Weighed (steps.Reaped q) os
asks_each q [] = tt
asks_each q (o ∷ os) = (asks_one (asks_child q o) refl, asks_each q os)
  where
    asks_one : (b : Bool) → asks_child q o ≡ b → Apart (steps.Reaped q) o ⊎ Lower (steps.Reaped q) o
    asks_one true e = inr e
    asks_one false e = inl e

asks_first : (q : Place) (o : Opening) → child_by o ≡ Some q → asks_child q o ≡ true
asks_first q o e =
    let k = only_some (o.is_child && o.closed && not o.asked_child) o.place q e in
    let a = and_parts (o.is_child && o.closed) (not o.asked_child) k.0 in
    and_from (is_place q o) (not o.asked_child) (subst (λ x. same_place x o.place ≡ true) k.1 (same_place_self o.place)) a.1

asks_some : (q : Place) (os : List Opening) → first_of child_by os ≡ Some q → SomeLower (steps.Reaped q) os
asks_some q [] e = absurd cc
asks_some q (o ∷ os) e = go (or_some (child_by o) (first_of child_by os) q e) (asks_some q os)
  where
    go : (child_by o ≡ Some q) ⊎ (first_of child_by os ≡ Some q) → (first_of child_by os ≡ Some q → SomeLower (steps.Reaped q) os) → SomeLower (steps.Reaped q) (o ∷ os)
    go (inl h) rest = inl (asks_first q o h)
    go (inr h) rest = inr (rest h)

-- the asking for a child lowers it, whether there is one or not
pub asked_child : (q : Place) (os ns : List Opening) → TookEach (steps.Reaped q) os ns → first_of child_by os ≡ Some q → steps_in ns < steps_in os
asked_child q os ns took e = lowered (steps.Reaped q) os ns took (asks_each q os) (asks_some q os e)
