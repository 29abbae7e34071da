-- What is asked of the openings of a session, against the list of acts.
use Rattle.std.proofs.Common.{◌≡◌, ℕ, suc, ◌<◌, ◌≤◌, length, get_or, drop, drop-cons, Bool, true, false, not, ◌&&◌, ◌||◌, cond, if◌then◌else◌, List, [], ◌∷◌, ◌++◌, map, Option, Some, None, is_none, is_some, option_map, ◌⊎◌, inl, inr, refl, sym, ap, subst, ◌∙◌}
use Rattle.std.specs.List.{list_any, list_all, filter}
use Rattle.std.proofs.lemmas.Bool.{and_parts, and_from, or_from}
use Rattle.std.proofs.lemmas.List.{drop_all}
use Rattle.std.proofs.lemmas.List.Folds.{list_any-append}
use Rattle.relay_model.specs.declared.places.Place.{Place}
use Rattle.relay_model.specs.declared.commands.Config.{Config}
use Rattle.relay_model.specs.declared.acts.Act.{Act}
use Rattle.relay_model.specs.declared.acts.Why.TheVariants as whys
use Rattle.relay_model.specs.Choices.{only_if, or_else}
use Rattle.relay_model.specs.Tries.{is_out_of_tries}
use Rattle.relay_model.specs.Places.{same_bool, same_place, door_of}
use Rattle.relay_model.specs.Configs.{places, own_doors, options_of, medium_of, is_program, listens_at, has_own_door, is_of, is_place_of}
use Rattle.relay_model.specs.History.{holds_at, is_gone_with, held, served, failures, was_closed, was_reaped}
use Rattle.relay_model.specs.declared.stages.Stage.{Stage}
use Rattle.relay_model.specs.declared.stages.Stage.TheVariants.{Usable, Met}
use Rattle.relay_model.specs.Sessions.{holds}
use Rattle.relay_model.specs.Openings.{stands_ready, is_ready, ready, place_call, first_call, out_of_tries}
use Rattle.relay_model.specs.declared.calls.Call.TheVariants.{Nothing}
use Rattle.relay_model.specs.Cause.{listening_failed, opening_failed}
use Rattle.place_openings.specs.declared.one_place.Opening.{Opening}
use Rattle.place_openings.specs.Stands.{IsOpening, IsTried, Each, EachTried, AreOpenings, tried_at}
use Rattle.place_openings.specs.Queries.{ready_at, ready_by, first_unready, first_of, held_by, held_at, child_by, gave_up}
use Rattle.place_openings.proofs.PlaceLemmas.{same_place_self}
use Rattle.place_openings.proofs.Tries.{some_left}

or_true : (b : Bool) → (b || true) ≡ true
or_true true = refl
or_true false = refl

-- ---- ready places

or_by : (h x y : Bool) → (h ≡ true → x ≡ y) → (not h || x) ≡ (not h || y)
or_by true x y same = same refl
or_by false x y same = refl

and_by : (h x y : Bool) → (h ≡ true → x ≡ y) → (h && x) ≡ (h && y)
and_by true x y same = same refl
and_by false x y same = refl

ready_stage : (c : Config) (past : List Act) (p : Place) (o : Opening) → IsOpening c past p o → (st : Stage) → ready_at o st ≡ stands_ready c past p st
ready_stage c past p o i Usable = ap not i.listens_is
ready_stage c past p o i (Met peer) =
    let e = or_by o.has_door (is_gone_with whys.Served o.door) (served past (door_of p)) (λ h. ap (is_gone_with whys.Served) (i.door_is h)) in
    rw (e, i.listens_is, i.filter_is, i.has_door_is) refl
ready_stage c past p o i other = refl

ready_is : (c : Config) (past : List Act) (p : Place) (o : Opening) → IsOpening c past p o → ready_by o ≡ is_ready c past p
ready_is c past p o i = ready_stage c past p o i o.stage ∙ ap (stands_ready c past p) i.stage_is

-- all places are ready
pub record AllReady (c : Config) (past : List Act) (ps : List Place) : Type 0 where
  pub ready_is : list_all (is_ready c past) ps ≡ true
  pub call_is : first_call c past ps ≡ Nothing

-- the opening is that of the first place that isn't ready
pub record FirstUnready (c : Config) (past : List Act) (ps : List Place) (o : Opening) : Type 0 where
  pub place : Place
  pub is : IsOpening c past place o
  pub unready_is : list_all (is_ready c past) ps ≡ false
  pub call_is : first_call c past ps ≡ place_call c past place

unready_none : (c : Config) (past : List Act) (ps : List Place) (os : List Opening) → Each c past ps os → first_unready os ≡ None → AllReady c past ps
unready_none c past [] [] each none = record { ready_is = refl; call_is = refl }
unready_none c past [] (o ∷ os) each none = absurd each
unready_none c past (p ∷ ps) [] each none = absurd each
unready_none c past (p ∷ ps) (o ∷ os) each none = go (ready_by o) (ready_is c past p o each.0) none (unready_none c past ps os each.1)
  where
    go : (b : Bool) → b ≡ is_ready c past p → (if b then first_unready os else Some o) ≡ None → (first_unready os ≡ None → AllReady c past ps) → AllReady c past (p ∷ ps)
    go true e n rest =
        let r = rest n in
        record { ready_is = and_from (is_ready c past p) (list_all (is_ready c past) ps) (sym e) r.ready_is; call_is = rw (← e) r.call_is }
    go false e n rest = absurd cc

unready_some : (c : Config) (past : List Act) (ps : List Place) (os : List Opening) (x : Opening) → Each c past ps os → first_unready os ≡ Some x → FirstUnready c past ps x
unready_some c past [] [] x each some = absurd cc
unready_some c past [] (o ∷ os) x each some = absurd each
unready_some c past (p ∷ ps) [] x each some = absurd each
unready_some c past (p ∷ ps) (o ∷ os) x each some = go (ready_by o) (ready_is c past p o each.0) some (unready_some c past ps os x each.1)
  where
    go : (b : Bool) → b ≡ is_ready c past p → (if b then first_unready os else Some o) ≡ Some x → (first_unready os ≡ Some x → FirstUnready c past ps x) → FirstUnready c past (p ∷ ps) x
    go true e n rest =
        let r = rest n in
        record { place = r.place; is = r.is; unready_is = rw (← e) r.unready_is; call_is = rw (← e) r.call_is }
    go false e n rest =
        let same : o ≡ x = cc in
        record { place = p; is = subst (λ y. IsOpening c past p y) same each.0; unready_is = rw (← e) refl; call_is = rw (← e) refl }

pub all_ready : (c : Config) (past : List Act) (s : ℕ) (os : List Opening) → AreOpenings c past s os → first_unready os ≡ None → AllReady c past (places c s)
all_ready c past s os are none = unready_none c past (places c s) os are.each none

pub one_unready : (c : Config) (past : List Act) (s : ℕ) (os : List Opening) (x : Opening) → AreOpenings c past s os → first_unready os ≡ Some x → FirstUnready c past (places c s) x
one_unready c past s os x are some = unready_some c past (places c s) os x are.each some

-- ---- first answers

first_same : {T : Type 0} (c : Config) (past : List Act) (f : Opening → Option T) (g : Place → Option T) → ((p : Place) (o : Opening) → IsOpening c past p o → f o ≡ g p) → (ps : List Place) (os : List Opening) → Each c past ps os → first_of f os ≡ first_of g ps
first_same c past f g same [] [] each = refl
first_same c past f g same [] (o ∷ os) each = absurd each
first_same c past f g same (p ∷ ps) [] each = absurd each
first_same c past f g same (p ∷ ps) (o ∷ os) each = rw (same p o each.0, first_same c past f g same ps os each.1) refl

held_is : (c : Config) (past : List Act) (p : Place) (o : Opening) → IsOpening c past p o → held_by o ≡ held_at c past p
held_is c past p o i =
    let e = and_by o.has_door (holds_at o.door) (held past (door_of p)) (λ h. ap holds_at (i.door_is h)) in
    rw (e, i.stage_is, i.has_door_is, i.place_is) refl

only_none : {T : Type 0} (b : Bool) (x : T) → only_if b x ≡ None → b ≡ false
only_none true x e = cc
only_none false x e = refl

or_none : {T : Type 0} (a b : Option T) → or_else a b ≡ None → (a ≡ None) × (b ≡ None)
or_none None b e = (refl, e)
or_none (Some x) b e = absurd cc

pub or_some : {T : Type 0} (a b : Option T) (x : T) → or_else a b ≡ Some x → (a ≡ Some x) ⊎ (b ≡ Some x)
or_some None b x e = inr e
or_some (Some y) b x e = inl e

pub only_some : {T : Type 0} (b : Bool) (x y : T) → only_if b x ≡ Some y → (b ≡ true) × (x ≡ y)
only_some true x y e = (refl, cc)
only_some false x y e = absurd cc

-- ---- children

pub not_true : (b : Bool) → not b ≡ true → b ≡ false
not_true true e = cc
not_true false e = refl

not_before : (asked reaped : Bool) → (reaped ≡ true → asked ≡ true) → asked ≡ false → reaped ≡ false
not_before asked true f e = sym (f refl) ∙ e
not_before asked false f e = refl

-- the child of the place may be reaped
record MayBeReaped (c : Config) (past : List Act) (q : Place) : Type 0 where
  program_is : is_program (medium_of c q) ≡ true
  closed_is : was_closed past q ≡ true
  not_reaped : was_reaped past q ≡ false

child_at : (c : Config) (past : List Act) (p : Place) (o : Opening) → IsOpening c past p o → (o.is_child && o.closed && not o.asked_child) ≡ true → MayBeReaped c past p
child_at c past p o i e =
    let a = and_parts (o.is_child && o.closed) (not o.asked_child) e in
    let b = and_parts o.is_child o.closed a.0 in
    record {
      program_is = sym i.is_child_is ∙ b.0;
      closed_is = sym (i.closed_is b.0) ∙ b.1;
      not_reaped = not_before o.asked_child (was_reaped past p) i.asked_child_is (not_true o.asked_child a.1);
    }

child_some : (c : Config) (past : List Act) (ps : List Place) (os : List Opening) (q : Place) → Each c past ps os → first_of child_by os ≡ Some q → MayBeReaped c past q × (list_any (same_place q) ps ≡ true)
child_some c past [] [] q each e = absurd cc
child_some c past [] (o ∷ os) q each e = absurd each
child_some c past (p ∷ ps) [] q each e = absurd each
child_some c past (p ∷ ps) (o ∷ os) q each e = go (or_some (child_by o) (first_of child_by os) q e) (child_some c past ps os q each.1)
  where
    go : (child_by o ≡ Some q) ⊎ (first_of child_by os ≡ Some q) → (first_of child_by os ≡ Some q → MayBeReaped c past q × (list_any (same_place q) ps ≡ true)) → MayBeReaped c past q × (list_any (same_place q) (p ∷ ps) ≡ true)
    go (inl h) rest =
        let k = only_some (o.is_child && o.closed && not o.asked_child) o.place q h in
        subst (λ x. MayBeReaped c past x × (list_any (same_place x) (p ∷ ps) ≡ true)) (sym each.0.place_is ∙ k.1) (child_at c past p o each.0 k.0, rw (same_place_self p) refl)
    go (inr h) rest =
        let k = rest h in (k.0, rw k.1 (or_true (same_place q p)))

pub some_child : (c : Config) (past : List Act) (s : ℕ) (os : List Opening) (q : Place) → AreOpenings c past s os → first_of child_by os ≡ Some q → (is_program (medium_of c q) ≡ true) × (was_closed past q ≡ true) × (was_reaped past q ≡ false) × (is_place_of c s q ≡ true)
some_child c past s os q are e =
    let k = child_some c past (places c s) os q are.each e in
    (k.0.program_is, k.0.closed_is, k.0.not_reaped, k.1)

-- ---- own doors

door_if : (f : Place → Bool) (b : Bool) (p : Place) (ds : List Place) → list_any f (map door_of (cond b (p ∷ ds) ds)) ≡ (b && f (door_of p) || list_any f (map door_of ds))
door_if f true p ds = refl
door_if f false p ds = refl

-- what is held of a place is the place or its own door
held_some : (c : Config) (past : List Act) (p q : Place) → held_at c past p ≡ Some q → (held past q ≡ true) × ((q ≡ p) ⊎ ((has_own_door c p ≡ true) × (q ≡ door_of p)))
held_some c past p q e = go (or_some (only_if (held past p) p) (only_if (has_own_door c p && held past (door_of p)) (door_of p)) q e)
  where
    go : (only_if (held past p) p ≡ Some q) ⊎ (only_if (has_own_door c p && held past (door_of p)) (door_of p) ≡ Some q) → (held past q ≡ true) × ((q ≡ p) ⊎ ((has_own_door c p ≡ true) × (q ≡ door_of p)))
    go (inl h) =
        let k = only_some (held past p) p q h in (subst (λ x. held past x ≡ true) k.1 k.0, inl (sym k.1))
    go (inr h) =
        let k = only_some (has_own_door c p && held past (door_of p)) (door_of p) q h in
        let a = and_parts (has_own_door c p) (held past (door_of p)) k.0 in
        (subst (λ x. held past x ≡ true) k.1 a.1, inr (a.0, sym k.1))

-- whether a test holds of one of the places or their own doors
abbrev pub some_thing : Config → (Place → Bool) → List Place → Bool
some_thing c f ps = list_any f ps || list_any f (map door_of (filter (has_own_door c) ps))

pub things_are : (c : Config) (f : Place → Bool) (s : ℕ) → list_any f (places c s ++ own_doors c s) ≡ some_thing c f (places c s)
things_are c f s = list_any-append f (places c s) (own_doors c s)

some_swap : (a b x y : Bool) → ((a || b) || (x || y)) ≡ ((a || x) || (b || y))
some_swap true b x y = refl
some_swap false true true y = refl
some_swap false true false y = refl
some_swap false false true y = refl
some_swap false false false y = refl

-- one place more
pub some_thing_step : (c : Config) (f : Place → Bool) (p : Place) (ps : List Place) → some_thing c f (p ∷ ps) ≡ ((f p || has_own_door c p && f (door_of p)) || some_thing c f ps)
some_thing_step c f p ps =
    rw (door_if f (has_own_door c p) p (filter (has_own_door c) ps)) (some_swap (f p) (list_any f ps) (has_own_door c p && f (door_of p)) (list_any f (map door_of (filter (has_own_door c) ps))))

held_none : (c : Config) (past : List Act) (ps : List Place) → first_of (held_at c past) ps ≡ None → some_thing c (held past) ps ≡ false
held_none c past [] e = refl
held_none c past (p ∷ ps) e =
    let k = or_none (held_at c past p) (first_of (held_at c past) ps) e in
    let a = or_none (only_if (held past p) p) (only_if (has_own_door c p && held past (door_of p)) (door_of p)) k.0 in
    some_thing_step c (held past) p ps ∙ or_from (held past p || has_own_door c p && held past (door_of p)) (some_thing c (held past) ps) (or_from (held past p) (has_own_door c p && held past (door_of p)) (only_none (held past p) p a.0) (only_none (has_own_door c p && held past (door_of p)) (door_of p) a.1)) (held_none c past ps k.1)

here : (c : Config) (p q : Place) → (q ≡ p) ⊎ ((has_own_door c p ≡ true) × (q ≡ door_of p)) → (same_place q p || has_own_door c p && same_place q (door_of p)) ≡ true
here c p q (inl e) = subst (λ x. (same_place x p || has_own_door c p && same_place x (door_of p)) ≡ true) (sym e) (rw (same_place_self p) refl)
here c p q (inr e) =
    subst (λ x. (same_place x p || has_own_door c p && same_place x (door_of p)) ≡ true) (sym e.1) (rw (e.0, same_place_self (door_of p)) (or_true (same_place (door_of p) p)))

held_first : (c : Config) (past : List Act) (ps : List Place) (q : Place) → first_of (held_at c past) ps ≡ Some q → (held past q ≡ true) × (some_thing c (same_place q) ps ≡ true)
held_first c past [] q e = absurd cc
held_first c past (p ∷ ps) q e = go (or_some (held_at c past p) (first_of (held_at c past) ps) q e) (held_first c past ps q)
  where
    go : (held_at c past p ≡ Some q) ⊎ (first_of (held_at c past) ps ≡ Some q) → (first_of (held_at c past) ps ≡ Some q → (held past q ≡ true) × (some_thing c (same_place q) ps ≡ true)) → (held past q ≡ true) × (some_thing c (same_place q) (p ∷ ps) ≡ true)
    go (inl h) rest =
        let k = held_some c past p q h in
        (k.0, some_thing_step c (same_place q) p ps ∙ ap (λ b. b || some_thing c (same_place q) ps) (here c p q k.1))
    go (inr h) rest =
        let k = rest h in
        (k.0, some_thing_step c (same_place q) p ps ∙ (ap (λ b. (same_place q p || has_own_door c p && same_place q (door_of p)) || b) k.1 ∙ or_true (same_place q p || has_own_door c p && same_place q (door_of p))))

pub none_held : (c : Config) (past : List Act) (s : ℕ) (os : List Opening) → AreOpenings c past s os → first_of held_by os ≡ None → holds c past s ≡ false
none_held c past s os are e =
    things_are c (held past) s ∙ held_none c past (places c s) (sym (first_same c past held_by (held_at c past) (held_is c past) (places c s) os are.each) ∙ e)

pub some_held : (c : Config) (past : List Act) (s : ℕ) (os : List Opening) (q : Place) → AreOpenings c past s os → first_of held_by os ≡ Some q → (held past q ≡ true) × (is_of c s q ≡ true)
some_held c past s os q are e =
    let k = held_first c past (places c s) q (sym (first_same c past held_by (held_at c past) (held_is c past) (places c s) os are.each) ∙ e) in
    (k.0, things_are c (same_place q) s ∙ k.1)

-- ---- tries

-- the places that are left, after some that have tries
pub record NotBefore (c : Config) (past : List Act) (has_door : Bool) (ps : List Place) (os : List Opening) : Type 0 where
  pub left : List Place
  pub each : EachTried c past left os
  pub same : list_any (gave_up c past has_door) ps ≡ list_any (gave_up c past has_door) left

some_before : (c : Config) (past : List Act) (has_door : Bool) (ps left : List Place) (o : Opening) (os : List Opening) → EachTried c past left (o ∷ os) → list_any (gave_up c past has_door) ps ≡ list_any (gave_up c past has_door) left → ((p : Place) → IsTried c past p o → true ≡ gave_up c past has_door p) → true ≡ list_any (gave_up c past has_door) ps
some_before c past has_door ps [] o os each same out = absurd each
some_before c past has_door ps (p ∷ left) o os each same out = sym (same ∙ rw (← out p each.0) refl)

none_before : (c : Config) (past : List Act) (has_door : Bool) (ps left : List Place) (o : Opening) (os : List Opening) → EachTried c past left (o ∷ os) → list_any (gave_up c past has_door) ps ≡ list_any (gave_up c past has_door) left → ((p : Place) → IsTried c past p o → false ≡ gave_up c past has_door p) → NotBefore c past has_door ps os
none_before c past has_door ps [] o os each same out = absurd each
none_before c past has_door ps (p ∷ left) o os each same out =
    record { left = left; each = each.1; same = same ∙ rw (← out p each.0) refl }

none_after : (c : Config) (past : List Act) (has_door : Bool) (ps left : List Place) → EachTried c past left [] → list_any (gave_up c past has_door) ps ≡ list_any (gave_up c past has_door) left → false ≡ list_any (gave_up c past has_door) ps
none_after c past has_door ps [] each same = sym same
none_after c past has_door ps (p ∷ left) each same = absurd each

pub next_is : (xs : List Opening) (i : ℕ) (x : Opening) → i < length xs → x ≡ get_or xs i x → (drop i xs) ≡ (x ∷ (drop (suc i) xs))
next_is xs i x lt e = (drop-cons xs i x lt) ∙ ap (λ y. y ∷ (drop (suc i) xs)) (sym e)

pub found_out : (c : Config) (past : List Act) (has_door : Bool) (ps : List Place) (xs : List Opening) (i : ℕ) (x : Opening) → i < length xs → x ≡ get_or xs i x → NotBefore c past has_door ps ((drop i xs)) → ((p : Place) → IsTried c past p x → true ≡ gave_up c past has_door p) → true ≡ list_any (gave_up c past has_door) ps
found_out c past has_door ps xs i x lt e n out =
    some_before c past has_door ps n.left x ((drop (suc i) xs)) (subst (EachTried c past n.left) (next_is xs i x lt e) n.each) n.same out

pub one_less : (c : Config) (past : List Act) (has_door : Bool) (ps : List Place) (xs : List Opening) (i : ℕ) (x : Opening) → i < length xs → x ≡ get_or xs i x → NotBefore c past has_door ps ((drop i xs)) → ((p : Place) → IsTried c past p x → false ≡ gave_up c past has_door p) → NotBefore c past has_door ps ((drop (suc i) xs))
one_less c past has_door ps xs i x lt e n out =
    none_before c past has_door ps n.left x ((drop (suc i) xs)) (subst (EachTried c past n.left) (next_is xs i x lt e) n.each) n.same out

pub none_out : (c : Config) (past : List Act) (has_door : Bool) (ps : List Place) (xs : List Opening) (i : ℕ) → length xs ≤ i → NotBefore c past has_door ps ((drop i xs)) → false ≡ list_any (gave_up c past has_door) ps
none_out c past has_door ps xs i le n =
    none_after c past has_door ps n.left (subst (EachTried c past n.left) ((drop_all i xs le)) n.each) n.same

door_gave_up : (b : Bool) (c : Config) (past : List Act) (p : Place) → (same_bool b true && out_of_tries c past (tried_at b p)) ≡ (b && out_of_tries c past (door_of p))
door_gave_up true c past p = refl
door_gave_up false c past p = refl

doors_gave_up : (c : Config) (past : List Act) (ps : List Place) → list_any (gave_up c past true) ps ≡ list_any (out_of_tries c past) (map door_of (filter (has_own_door c) ps))
doors_gave_up c past [] = refl
doors_gave_up c past (p ∷ ps) =
    rw (door_gave_up (has_own_door c p) c past p, doors_gave_up c past ps, door_if (out_of_tries c past) (has_own_door c p) p (filter (has_own_door c) ps)) refl

pub doors_are_out : (c : Config) (past : List Act) (s : ℕ) → list_any (gave_up c past true) (places c s) ≡ listening_failed c past s
doors_are_out c past s = doors_gave_up c past (places c s)

pub no_failures : (c : Config) (past : List Act) (p : Place) → failures past p ≡ [] → out_of_tries c past p ≡ false
no_failures c past p e = rw e (some_left (options_of c p).tries.retry (options_of c p).tries.forever)

pub place_gave_up : (b : Bool) (c : Config) (past : List Act) (p : Place) → (b ≡ true → out_of_tries c past p ≡ false) → (same_bool b false && out_of_tries c past (tried_at b p)) ≡ out_of_tries c past p
place_gave_up true c past p none = sym (none refl)
place_gave_up false c past p none = refl

places_gave_up : (c : Config) (past : List Act) (ps : List Place) (os : List Opening) → EachTried c past ps os → list_any (gave_up c past false) ps ≡ list_any (out_of_tries c past) ps
places_gave_up c past [] [] each = refl
places_gave_up c past [] (o ∷ os) each = absurd each
places_gave_up c past (p ∷ ps) [] each = absurd each
places_gave_up c past (p ∷ ps) (o ∷ os) each =
    let i = each.0 in
    rw (place_gave_up (has_own_door c p) c past p (λ h. no_failures c past p (i.untried (i.listens_is ∙ (and_parts (listens_at c p) _ h).0))), places_gave_up c past ps os each.1) refl

pub places_are_out : (c : Config) (past : List Act) (s : ℕ) (os : List Opening) → EachTried c past (places c s) os → list_any (gave_up c past false) (places c s) ≡ opening_failed c past s
places_are_out c past s os each = places_gave_up c past (places c s) os each

pub out_by : (b : Bool) (c : Config) (past : List Act) (p : Place) → is_out_of_tries (options_of c p).tries.retry (options_of c p).tries.forever (failures past (tried_at b p)) ≡ out_of_tries c past (tried_at b p)
out_by true c past p = refl
out_by false c past p = refl

pub ready_by_none : (c : Config) (past : List Act) (s : ℕ) (os : List Opening) → AreOpenings c past s os → (r : Option Opening) → first_unready os ≡ r → is_none r ≡ ready c past s
ready_by_none c past s os are None e = sym (all_ready c past s os are e).ready_is
ready_by_none c past s os are (Some x) e = sym (one_unready c past s os x are e).unready_is

pub none_is : {T : Type 0} (r : Option T) → is_none r ≡ true → r ≡ None
none_is None e = refl
none_is (Some x) e = cc

pub none_by : {T U : Type 0} (f : T → U) (r : Option T) (b : Bool) → is_some r ≡ not b → b ≡ is_none (option_map f r)
none_by f None true e = refl
none_by f None false e = cc
none_by f (Some x) true e = cc
none_by f (Some x) false e = refl
