-- What leaves the openings of a session as they are.
use Rattle.std.proofs.Common.{◌≡◌, ℕ, Bool, true, false, not, ◌&&◌, ◌||◌, ◌==◌, if◌then◌else◌, List, [], ◌∷◌, Option, Some, refl, sym, subst, ◌∙◌}
use Rattle.std.proofs.lemmas.Bool.{or_parts}
use Rattle.relay_model.specs.declared.places.Place.{Place}
use Rattle.relay_model.specs.declared.commands.Config.{Config}
use Rattle.relay_model.specs.declared.acts.Act.{Act}
use Rattle.relay_model.specs.declared.acts.Act.TheVariants as acts
use Rattle.relay_model.specs.declared.acts.Peer.{Peer}
use Rattle.relay_model.specs.declared.acts.Why.{Why}
use Rattle.relay_model.specs.declared.acts.ChildEnd.{ChildEnd}
use Rattle.relay_model.specs.Choices.{noted}
use Rattle.relay_model.specs.Readiness.{Listed}
use Rattle.relay_model.specs.Places.{same_bool, same_side, same_part, same_place, door_of}
use Rattle.relay_model.specs.Configs.{places, options_of, has_own_door, accepting_door, is_of}
use Rattle.relay_model.specs.History.{now, stage, woken, failures, was_closed, was_reaped}
use Rattle.relay_model.specs.declared.stages.Stage.TheVariants.{Usable, Unsettled, Failed, Met, Waiting, Gone}
use Rattle.relay_model.specs.Arming.{armed_to_accept, asked_to_accept}
use Rattle.retry_plan.specs.Plans.{PlanIs, last_of}
use Rattle.place_openings.specs.declared.one_place.Opening.{Opening}
use Rattle.place_openings.specs.Stands.{IsOpening, Each, AreOpenings, tried_at}
use Rattle.place_openings.specs.Touching.{touches}
use Rattle.place_openings.proofs.PlaceLemmas.{accepts_for}
use Rattle.place_openings.proofs.Asked.{some_thing, some_thing_step, things_are}

same_if : {T : Type 0} (b : Bool) (x y z : T) → b ≡ false → z ≡ y → z ≡ (if b then x else y)
same_if true x y z e same = absurd cc
same_if false x y z e same = same

same_or : (b y z : Bool) → b ≡ false → z ≡ y → z ≡ (b || y)
same_or true y z e same = absurd cc
same_or false y z e same = same

other_is : (b y : Bool) → b ≡ false → (b || y) ≡ true → y ≡ true
other_is true y e h = absurd cc
other_is false y e h = h

same_and : (b y z : Bool) → b ≡ false → z ≡ y → z ≡ (not b && y)
same_and true y z e same = absurd cc
same_and false y z e same = same

same_noted : (b : Bool) (x : ℕ) (xs : List ℕ) → b ≡ false → noted b x xs ≡ xs
same_noted true x xs e = absurd cc
same_noted false x xs e = refl

-- a thing is neither a place nor its own door
record Aside (c : Config) (q p : Place) : Type 0 where
  no_place : same_place q p ≡ false
  no_door : has_own_door c p ≡ true → same_place q (door_of p) ≡ false

own_door : {c : Config} {past : List Act} {p : Place} {o : Opening} → IsOpening c past p o → o.has_door ≡ true → has_own_door c p ≡ true
own_door i h = sym i.has_door_is ∙ h

tried_by : (q p : Place) (b : Bool) → same_place q p ≡ false → (b ≡ true → same_place q (door_of p) ≡ false) → same_place q (tried_at b p) ≡ false
tried_by q p true x y = y refl
tried_by q p false x y = x

tried_apart : {c : Config} {past : List Act} {p q : Place} {o : Opening} → IsOpening c past p o → Aside c q p → same_place q (tried_at o.has_door p) ≡ false
tried_apart {p = p} {q = q} {o = o} i a = tried_by q p o.has_door a.no_place (λ h. a.no_door (own_door i h))

same_but_door : (a n d e : Bool) → d ≡ true → e ≡ false → (a && same_bool false e && n) ≡ (a && same_bool d true && n)
same_but_door a n true false x y = refl
same_but_door a n true true x y = absurd cc
same_but_door a n false e x y = absurd cc

-- a peer that is met elsewhere isn't met at this own door
accepts_elsewhere : (c : Config) (q p : Place) → p.door ≡ false → has_own_door c p ≡ true → same_place q p ≡ false → same_place q (door_of p) ≡ false → (d : Bool) → q.door ≡ d → same_place (accepting_door c q) (door_of p) ≡ false
accepts_elsewhere c q p no_door own x y false e = accepts_for c q p e no_door own ∙ x
accepts_elsewhere c q p no_door own x y true e =
    accepts_for c (record { session = q.session; side = q.side; part = q.part; door = false }) p refl no_door own ∙ (same_but_door (same_side q.side p.side && same_part q.part p.part) (q.session == p.session) q.door p.door e no_door ∙ y)

-- ---- one opening

stopped_one : (c : Config) (past : List Act) (until : Option ℕ) (at : ℕ) (ready : Listed) (p : Place) (o : Opening) → IsOpening c (acts.Turn until at ready false ∷ past) p o → IsOpening c (acts.Turn until at ready true ∷ past) p o
stopped_one c past until at ready p o i =
    record {
      no_door = i.no_door;
      place_is = i.place_is;
      listens_is = i.listens_is;
      has_door_is = i.has_door_is;
      is_child_is = i.is_child_is;
      filter_is = i.filter_is;
      stage_is = i.stage_is;
      woken_is = i.woken_is;
      door_is = i.door_is;
      armed_is = i.armed_is;
      asked_is = i.asked_is;
      tries_are = i.tries_are;
      tried_is = i.tried_is;
      untried = i.untried;
      closed_is = i.closed_is;
      asked_child_is = i.asked_child_is;
    }

stays_Opened : (c : Config) (past : List Act) (q : Place) (p : Place) (o : Opening) → IsOpening c past p o → Aside c q p → IsOpening c (acts.Opened q ∷ past) p o
stays_Opened c past q p o i a =
    record {
      no_door = i.no_door;
      place_is = i.place_is;
      listens_is = i.listens_is;
      has_door_is = i.has_door_is;
      is_child_is = i.is_child_is;
      filter_is = i.filter_is;
      stage_is = same_if (same_place q p) Usable (stage past p) o.stage a.no_place i.stage_is;
      woken_is = i.woken_is;
      door_is = λ h. same_if (same_place q (door_of p)) Usable (stage past (door_of p)) o.door (a.no_door (own_door i h)) (i.door_is h);
      armed_is = i.armed_is;
      asked_is = i.asked_is;
      tries_are = i.tries_are;
      tried_is = i.tried_is;
      untried = i.untried;
      closed_is = i.closed_is;
      asked_child_is = i.asked_child_is;
    }

stays_OpenLater : (c : Config) (past : List Act) (q : Place) (p : Place) (o : Opening) → IsOpening c past p o → Aside c q p → IsOpening c (acts.OpenLater q ∷ past) p o
stays_OpenLater c past q p o i a =
    record {
      no_door = i.no_door;
      place_is = i.place_is;
      listens_is = i.listens_is;
      has_door_is = i.has_door_is;
      is_child_is = i.is_child_is;
      filter_is = i.filter_is;
      stage_is = same_if (same_place q p) Unsettled (stage past p) o.stage a.no_place i.stage_is;
      woken_is = same_and (same_place q p) (woken past p) o.woken a.no_place i.woken_is;
      door_is = λ h. same_if (same_place q (door_of p)) Unsettled (stage past (door_of p)) o.door (a.no_door (own_door i h)) (i.door_is h);
      armed_is = i.armed_is;
      asked_is = i.asked_is;
      tries_are = i.tries_are;
      tried_is = i.tried_is;
      untried = i.untried;
      closed_is = i.closed_is;
      asked_child_is = i.asked_child_is;
    }

stays_OpenFailed : (c : Config) (past : List Act) (q : Place) (p : Place) (o : Opening) → IsOpening c past p o → Aside c q p → IsOpening c (acts.OpenFailed q ∷ past) p o
stays_OpenFailed c past q p o i a =
    record {
      no_door = i.no_door;
      place_is = i.place_is;
      listens_is = i.listens_is;
      has_door_is = i.has_door_is;
      is_child_is = i.is_child_is;
      filter_is = i.filter_is;
      stage_is = same_if (same_place q p) Failed (stage past p) o.stage a.no_place i.stage_is;
      woken_is = i.woken_is;
      door_is = λ h. same_if (same_place q (door_of p)) Failed (stage past (door_of p)) o.door (a.no_door (own_door i h)) (i.door_is h);
      armed_is = i.armed_is;
      asked_is = i.asked_is;
      tries_are = subst (λ xs. PlanIs (options_of c p).tries.retry (options_of c p).tries.forever (options_of c p).tries.interval xs o.plan) (sym (same_noted (same_place q (tried_at o.has_door p)) (now past) (failures past (tried_at o.has_door p)) (tried_apart i a))) i.tries_are;
      tried_is = λ h. subst (λ xs. last_of xs ≡ Some (now past)) (sym (same_noted (same_place q (tried_at o.has_door p)) (now past) (failures past (tried_at o.has_door p)) (tried_apart i a))) (i.tried_is h);
      untried = λ h. same_noted (same_place q p) (now past) (failures past p) a.no_place ∙ i.untried h;
      closed_is = i.closed_is;
      asked_child_is = i.asked_child_is;
    }

stays_Listening : (c : Config) (past : List Act) (q : Place) (p : Place) (o : Opening) → IsOpening c past p o → Aside c q p → IsOpening c (acts.Listening q ∷ past) p o
stays_Listening c past q p o i a =
    record {
      no_door = i.no_door;
      place_is = i.place_is;
      listens_is = i.listens_is;
      has_door_is = i.has_door_is;
      is_child_is = i.is_child_is;
      filter_is = i.filter_is;
      stage_is = same_if (same_place q p) Waiting (stage past p) o.stage a.no_place i.stage_is;
      woken_is = i.woken_is;
      door_is = λ h. same_if (same_place q (door_of p)) Waiting (stage past (door_of p)) o.door (a.no_door (own_door i h)) (i.door_is h);
      armed_is = λ h. same_or (same_place q (door_of p)) (armed_to_accept past (door_of p)) o.armed (a.no_door (own_door i h)) (i.armed_is h);
      asked_is = i.asked_is;
      tries_are = i.tries_are;
      tried_is = i.tried_is;
      untried = i.untried;
      closed_is = i.closed_is;
      asked_child_is = i.asked_child_is;
    }

stays_ListenFailed : (c : Config) (past : List Act) (q : Place) (p : Place) (o : Opening) → IsOpening c past p o → Aside c q p → IsOpening c (acts.ListenFailed q ∷ past) p o
stays_ListenFailed c past q p o i a =
    record {
      no_door = i.no_door;
      place_is = i.place_is;
      listens_is = i.listens_is;
      has_door_is = i.has_door_is;
      is_child_is = i.is_child_is;
      filter_is = i.filter_is;
      stage_is = same_if (same_place q p) Failed (stage past p) o.stage a.no_place i.stage_is;
      woken_is = i.woken_is;
      door_is = λ h. same_if (same_place q (door_of p)) Failed (stage past (door_of p)) o.door (a.no_door (own_door i h)) (i.door_is h);
      armed_is = i.armed_is;
      asked_is = i.asked_is;
      tries_are = subst (λ xs. PlanIs (options_of c p).tries.retry (options_of c p).tries.forever (options_of c p).tries.interval xs o.plan) (sym (same_noted (same_place q (tried_at o.has_door p)) (now past) (failures past (tried_at o.has_door p)) (tried_apart i a))) i.tries_are;
      tried_is = λ h. subst (λ xs. last_of xs ≡ Some (now past)) (sym (same_noted (same_place q (tried_at o.has_door p)) (now past) (failures past (tried_at o.has_door p)) (tried_apart i a))) (i.tried_is h);
      untried = λ h. same_noted (same_place q p) (now past) (failures past p) a.no_place ∙ i.untried h;
      closed_is = i.closed_is;
      asked_child_is = i.asked_child_is;
    }

stays_Accepted : (c : Config) (past : List Act) (q : Place) (peer : Peer) (p : Place) (o : Opening) → IsOpening c past p o → Aside c q p → IsOpening c (acts.Accepted q peer ∷ past) p o
stays_Accepted c past q peer p o i a =
    record {
      no_door = i.no_door;
      place_is = i.place_is;
      listens_is = i.listens_is;
      has_door_is = i.has_door_is;
      is_child_is = i.is_child_is;
      filter_is = i.filter_is;
      stage_is = same_if (same_place q p) (Met peer) (stage past p) o.stage a.no_place i.stage_is;
      woken_is = i.woken_is;
      door_is = λ h. same_if (same_place q (door_of p)) (Met peer) (stage past (door_of p)) o.door (a.no_door (own_door i h)) (i.door_is h);
      armed_is = i.armed_is;
      asked_is = λ h. same_or (same_place (accepting_door c q) (door_of p)) (asked_to_accept c past (door_of p)) o.asked (accepts_elsewhere c q p i.no_door (own_door i h) a.no_place (a.no_door (own_door i h)) q.door refl) (i.asked_is h);
      tries_are = i.tries_are;
      tried_is = i.tried_is;
      untried = i.untried;
      closed_is = i.closed_is;
      asked_child_is = i.asked_child_is;
    }

stays_NoPeer : (c : Config) (past : List Act) (q : Place) (p : Place) (o : Opening) → IsOpening c past p o → Aside c q p → IsOpening c (acts.NoPeer q ∷ past) p o
stays_NoPeer c past q p o i a =
    record {
      no_door = i.no_door;
      place_is = i.place_is;
      listens_is = i.listens_is;
      has_door_is = i.has_door_is;
      is_child_is = i.is_child_is;
      filter_is = i.filter_is;
      stage_is = i.stage_is;
      woken_is = i.woken_is;
      door_is = i.door_is;
      armed_is = λ h. same_and (same_place q (door_of p)) (armed_to_accept past (door_of p)) o.armed (a.no_door (own_door i h)) (i.armed_is h);
      asked_is = λ h. same_or (same_place q (door_of p)) (asked_to_accept c past (door_of p)) o.asked (a.no_door (own_door i h)) (i.asked_is h);
      tries_are = i.tries_are;
      tried_is = i.tried_is;
      untried = i.untried;
      closed_is = i.closed_is;
      asked_child_is = i.asked_child_is;
    }

stays_AcceptFailed : (c : Config) (past : List Act) (q : Place) (p : Place) (o : Opening) → IsOpening c past p o → Aside c q p → IsOpening c (acts.AcceptFailed q ∷ past) p o
stays_AcceptFailed c past q p o i a =
    record {
      no_door = i.no_door;
      place_is = i.place_is;
      listens_is = i.listens_is;
      has_door_is = i.has_door_is;
      is_child_is = i.is_child_is;
      filter_is = i.filter_is;
      stage_is = i.stage_is;
      woken_is = i.woken_is;
      door_is = i.door_is;
      armed_is = i.armed_is;
      asked_is = λ h. same_or (same_place q (door_of p)) (asked_to_accept c past (door_of p)) o.asked (a.no_door (own_door i h)) (i.asked_is h);
      tries_are = i.tries_are;
      tried_is = i.tried_is;
      untried = i.untried;
      closed_is = i.closed_is;
      asked_child_is = i.asked_child_is;
    }

stays_Closed : (c : Config) (past : List Act) (q : Place) (why : Why) (p : Place) (o : Opening) → IsOpening c past p o → Aside c q p → IsOpening c (acts.Closed q why ∷ past) p o
stays_Closed c past q why p o i a =
    record {
      no_door = i.no_door;
      place_is = i.place_is;
      listens_is = i.listens_is;
      has_door_is = i.has_door_is;
      is_child_is = i.is_child_is;
      filter_is = i.filter_is;
      stage_is = same_if (same_place q p) (Gone why) (stage past p) o.stage a.no_place i.stage_is;
      woken_is = i.woken_is;
      door_is = λ h. same_if (same_place q (door_of p)) (Gone why) (stage past (door_of p)) o.door (a.no_door (own_door i h)) (i.door_is h);
      armed_is = i.armed_is;
      asked_is = i.asked_is;
      tries_are = i.tries_are;
      tried_is = i.tried_is;
      untried = i.untried;
      closed_is = λ k. same_or (same_place q p) (was_closed past p) o.closed a.no_place (i.closed_is k);
      asked_child_is = i.asked_child_is;
    }

stays_Reaped : (c : Config) (past : List Act) (q : Place) (end : ChildEnd) (p : Place) (o : Opening) → IsOpening c past p o → Aside c q p → IsOpening c (acts.Reaped q end ∷ past) p o
stays_Reaped c past q end p o i a =
    record {
      no_door = i.no_door;
      place_is = i.place_is;
      listens_is = i.listens_is;
      has_door_is = i.has_door_is;
      is_child_is = i.is_child_is;
      filter_is = i.filter_is;
      stage_is = i.stage_is;
      woken_is = i.woken_is;
      door_is = i.door_is;
      armed_is = i.armed_is;
      asked_is = i.asked_is;
      tries_are = i.tries_are;
      tried_is = i.tried_is;
      untried = i.untried;
      closed_is = i.closed_is;
      asked_child_is = λ h. i.asked_child_is (other_is (same_place q p) (was_reaped past p) a.no_place h);
    }

-- ---- all of them

each_by : (c : Config) (past later : List Act) → ((p : Place) (o : Opening) → IsOpening c past p o → IsOpening c later p o) → (ps : List Place) (os : List Opening) → Each c past ps os → Each c later ps os
each_by c past later f [] [] each = tt
each_by c past later f [] (o ∷ os) each = absurd each
each_by c past later f (p ∷ ps) [] each = absurd each
each_by c past later f (p ∷ ps) (o ∷ os) each = (f p o each.0, each_by c past later f ps os each.1)

and_false_by : (b x : Bool) → (b && x) ≡ false → b ≡ true → x ≡ false
and_false_by true x e h = e
and_false_by false x e h = absurd cc

each_aside : (c : Config) (past later : List Act) (q : Place) → ((p : Place) (o : Opening) → IsOpening c past p o → Aside c q p → IsOpening c later p o) → (ps : List Place) (os : List Opening) → Each c past ps os → some_thing c (same_place q) ps ≡ false → Each c later ps os
each_aside c past later q f [] [] each none = tt
each_aside c past later q f [] (o ∷ os) each none = absurd each
each_aside c past later q f (p ∷ ps) [] each none = absurd each
each_aside c past later q f (p ∷ ps) (o ∷ os) each none =
    let k = or_parts (same_place q p || has_own_door c p && same_place q (door_of p)) (some_thing c (same_place q) ps) (sym (some_thing_step c (same_place q) p ps) ∙ none) in
    let a = or_parts (same_place q p) (has_own_door c p && same_place q (door_of p)) k.0 in
    (f p o each.0 (record { no_place = a.0; no_door = and_false_by (has_own_door c p) (same_place q (door_of p)) a.1 }), each_aside c past later q f ps os each.1 k.1)

pub stopped : (c : Config) (past : List Act) (s : ℕ) (until : Option ℕ) (at : ℕ) (ready : Listed) (os : List Opening) → AreOpenings c (acts.Turn until at ready false ∷ past) s os → AreOpenings c (acts.Turn until at ready true ∷ past) s os
stopped c past s until at ready os are =
    record { each = each_by c (acts.Turn until at ready false ∷ past) (acts.Turn until at ready true ∷ past) (stopped_one c past until at ready) (places c s) os are.each }

aside : (c : Config) (past later : List Act) (s : ℕ) (q : Place) (os : List Opening) → AreOpenings c past s os → is_of c s q ≡ false → ((p : Place) (o : Opening) → IsOpening c past p o → Aside c q p → IsOpening c later p o) → AreOpenings c later s os
aside c past later s q os are none f =
    record { each = each_aside c past later q f (places c s) os are.each (sym (things_are c (same_place q) s) ∙ none) }

-- an act that is none of the session's opening leaves it
pub stays : (c : Config) (past : List Act) (s : ℕ) (act : Act) (os : List Opening) → AreOpenings c past s os → touches c s act ≡ false → AreOpenings c (act ∷ past) s os
stays c past s (acts.Turn until at ready stop) os are none = absurd cc
stays c past s (acts.Opened q) os are none = aside c past (acts.Opened q ∷ past) s q os are none (stays_Opened c past q)
stays c past s (acts.OpenLater q) os are none = aside c past (acts.OpenLater q ∷ past) s q os are none (stays_OpenLater c past q)
stays c past s (acts.OpenFailed q) os are none = aside c past (acts.OpenFailed q ∷ past) s q os are none (stays_OpenFailed c past q)
stays c past s (acts.Listening q) os are none = aside c past (acts.Listening q ∷ past) s q os are none (stays_Listening c past q)
stays c past s (acts.ListenFailed q) os are none = aside c past (acts.ListenFailed q ∷ past) s q os are none (stays_ListenFailed c past q)
stays c past s (acts.Accepted q peer) os are none = aside c past (acts.Accepted q peer ∷ past) s q os are none (stays_Accepted c past q peer)
stays c past s (acts.NoPeer q) os are none = aside c past (acts.NoPeer q ∷ past) s q os are none (stays_NoPeer c past q)
stays c past s (acts.AcceptFailed q) os are none = aside c past (acts.AcceptFailed q ∷ past) s q os are none (stays_AcceptFailed c past q)
stays c past s (acts.Closed q why) os are none = aside c past (acts.Closed q why ∷ past) s q os are none (stays_Closed c past q why)
stays c past s (acts.Reaped q end) os are none = aside c past (acts.Reaped q end ∷ past) s q os are none (stays_Reaped c past q end)
stays c past s (acts.Read q bytes) os are none = record { each = each_by c past (acts.Read q bytes ∷ past) (λ p o i. record { no_door = i.no_door; place_is = i.place_is; listens_is = i.listens_is; has_door_is = i.has_door_is; is_child_is = i.is_child_is; filter_is = i.filter_is; stage_is = i.stage_is; woken_is = i.woken_is; door_is = i.door_is; armed_is = i.armed_is; asked_is = i.asked_is; tries_are = i.tries_are; tried_is = i.tried_is; untried = i.untried; closed_is = i.closed_is; asked_child_is = i.asked_child_is }) (places c s) os are.each }
stays c past s (acts.ReadEmpty q) os are none = record { each = each_by c past (acts.ReadEmpty q ∷ past) (λ p o i. record { no_door = i.no_door; place_is = i.place_is; listens_is = i.listens_is; has_door_is = i.has_door_is; is_child_is = i.is_child_is; filter_is = i.filter_is; stage_is = i.stage_is; woken_is = i.woken_is; door_is = i.door_is; armed_is = i.armed_is; asked_is = i.asked_is; tries_are = i.tries_are; tried_is = i.tried_is; untried = i.untried; closed_is = i.closed_is; asked_child_is = i.asked_child_is }) (places c s) os are.each }
stays c past s (acts.ReadEnd q) os are none = record { each = each_by c past (acts.ReadEnd q ∷ past) (λ p o i. record { no_door = i.no_door; place_is = i.place_is; listens_is = i.listens_is; has_door_is = i.has_door_is; is_child_is = i.is_child_is; filter_is = i.filter_is; stage_is = i.stage_is; woken_is = i.woken_is; door_is = i.door_is; armed_is = i.armed_is; asked_is = i.asked_is; tries_are = i.tries_are; tried_is = i.tried_is; untried = i.untried; closed_is = i.closed_is; asked_child_is = i.asked_child_is }) (places c s) os are.each }
stays c past s (acts.ReadNotYet q) os are none = record { each = each_by c past (acts.ReadNotYet q ∷ past) (λ p o i. record { no_door = i.no_door; place_is = i.place_is; listens_is = i.listens_is; has_door_is = i.has_door_is; is_child_is = i.is_child_is; filter_is = i.filter_is; stage_is = i.stage_is; woken_is = i.woken_is; door_is = i.door_is; armed_is = i.armed_is; asked_is = i.asked_is; tries_are = i.tries_are; tried_is = i.tried_is; untried = i.untried; closed_is = i.closed_is; asked_child_is = i.asked_child_is }) (places c s) os are.each }
stays c past s (acts.ReadFault q) os are none = record { each = each_by c past (acts.ReadFault q ∷ past) (λ p o i. record { no_door = i.no_door; place_is = i.place_is; listens_is = i.listens_is; has_door_is = i.has_door_is; is_child_is = i.is_child_is; filter_is = i.filter_is; stage_is = i.stage_is; woken_is = i.woken_is; door_is = i.door_is; armed_is = i.armed_is; asked_is = i.asked_is; tries_are = i.tries_are; tried_is = i.tried_is; untried = i.untried; closed_is = i.closed_is; asked_child_is = i.asked_child_is }) (places c s) os are.each }
stays c past s (acts.Wrote q bytes) os are none = record { each = each_by c past (acts.Wrote q bytes ∷ past) (λ p o i. record { no_door = i.no_door; place_is = i.place_is; listens_is = i.listens_is; has_door_is = i.has_door_is; is_child_is = i.is_child_is; filter_is = i.filter_is; stage_is = i.stage_is; woken_is = i.woken_is; door_is = i.door_is; armed_is = i.armed_is; asked_is = i.asked_is; tries_are = i.tries_are; tried_is = i.tried_is; untried = i.untried; closed_is = i.closed_is; asked_child_is = i.asked_child_is }) (places c s) os are.each }
stays c past s (acts.WriteNotYet q) os are none = record { each = each_by c past (acts.WriteNotYet q ∷ past) (λ p o i. record { no_door = i.no_door; place_is = i.place_is; listens_is = i.listens_is; has_door_is = i.has_door_is; is_child_is = i.is_child_is; filter_is = i.filter_is; stage_is = i.stage_is; woken_is = i.woken_is; door_is = i.door_is; armed_is = i.armed_is; asked_is = i.asked_is; tries_are = i.tries_are; tried_is = i.tried_is; untried = i.untried; closed_is = i.closed_is; asked_child_is = i.asked_child_is }) (places c s) os are.each }
stays c past s (acts.WriteFault q) os are none = record { each = each_by c past (acts.WriteFault q ∷ past) (λ p o i. record { no_door = i.no_door; place_is = i.place_is; listens_is = i.listens_is; has_door_is = i.has_door_is; is_child_is = i.is_child_is; filter_is = i.filter_is; stage_is = i.stage_is; woken_is = i.woken_is; door_is = i.door_is; armed_is = i.armed_is; asked_is = i.asked_is; tries_are = i.tries_are; tried_is = i.tried_is; untried = i.untried; closed_is = i.closed_is; asked_child_is = i.asked_child_is }) (places c s) os are.each }
stays c past s (acts.Shut q way) os are none = record { each = each_by c past (acts.Shut q way ∷ past) (λ p o i. record { no_door = i.no_door; place_is = i.place_is; listens_is = i.listens_is; has_door_is = i.has_door_is; is_child_is = i.is_child_is; filter_is = i.filter_is; stage_is = i.stage_is; woken_is = i.woken_is; door_is = i.door_is; armed_is = i.armed_is; asked_is = i.asked_is; tries_are = i.tries_are; tried_is = i.tried_is; untried = i.untried; closed_is = i.closed_is; asked_child_is = i.asked_child_is }) (places c s) os are.each }
stays c past s (acts.ShutFault q way) os are none = record { each = each_by c past (acts.ShutFault q way ∷ past) (λ p o i. record { no_door = i.no_door; place_is = i.place_is; listens_is = i.listens_is; has_door_is = i.has_door_is; is_child_is = i.is_child_is; filter_is = i.filter_is; stage_is = i.stage_is; woken_is = i.woken_is; door_is = i.door_is; armed_is = i.armed_is; asked_is = i.asked_is; tries_are = i.tries_are; tried_is = i.tried_is; untried = i.untried; closed_is = i.closed_is; asked_child_is = i.asked_child_is }) (places c s) os are.each }
stays c past s (acts.Note text) os are none = record { each = each_by c past (acts.Note text ∷ past) (λ p o i. record { no_door = i.no_door; place_is = i.place_is; listens_is = i.listens_is; has_door_is = i.has_door_is; is_child_is = i.is_child_is; filter_is = i.filter_is; stage_is = i.stage_is; woken_is = i.woken_is; door_is = i.door_is; armed_is = i.armed_is; asked_is = i.asked_is; tries_are = i.tries_are; tried_is = i.tried_is; untried = i.untried; closed_is = i.closed_is; asked_child_is = i.asked_child_is }) (places c s) os are.each }
stays c past s (acts.NoteFault text) os are none = record { each = each_by c past (acts.NoteFault text ∷ past) (λ p o i. record { no_door = i.no_door; place_is = i.place_is; listens_is = i.listens_is; has_door_is = i.has_door_is; is_child_is = i.is_child_is; filter_is = i.filter_is; stage_is = i.stage_is; woken_is = i.woken_is; door_is = i.door_is; armed_is = i.armed_is; asked_is = i.asked_is; tries_are = i.tries_are; tried_is = i.tried_is; untried = i.untried; closed_is = i.closed_is; asked_child_is = i.asked_child_is }) (places c s) os are.each }
