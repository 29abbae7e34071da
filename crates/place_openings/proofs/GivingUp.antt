-- Which place is told of where no try is left.
use Rattle.std.proofs.Common.{◌≡◌, ℕ, suc, ◌<◌, ◌≤◌, ◌-◌, ◌^◌, min, length, take, get_or, drop, Bool, true, false, not, ◌&&◌, ◌==◌, nat_lt, cond, if◌then◌else◌, List, [], ◌∷◌, map, Option, Some, None, refl, sym, ap, subst, ◌∙◌, arith}
use Rattle.std.specs.List.{filter}
use Rattle.std.proofs.lemmas.Bool.{and_parts, and_from, false≢true, ltb-true, ltb-false}
use Rattle.std.proofs.lemmas.List.{drop_all, length-take}
use Rattle.relay_model.specs.declared.places.Side.{Side}
use Rattle.relay_model.specs.declared.places.Place.{Place}
use Rattle.relay_model.specs.declared.commands.Config.{Config}
use Rattle.relay_model.specs.declared.acts.Act.{Act}
use Rattle.relay_model.specs.Choices.{only_if, or_else}
use Rattle.relay_model.specs.Tries.{is_out_of_tries, next_due}
use Rattle.relay_model.specs.Places.{same_bool, door_of}
use Rattle.relay_model.specs.Configs.{places, options_of, listens_at, has_own_door}
use Rattle.relay_model.specs.History.{failures}
use Rattle.relay_model.specs.Openings.{out_of_tries}
use Rattle.retry_plan.specs.Ledger.{PlanLedger}
use Rattle.retry_plan.specs.Plans.{PlanIs, attempts_of, next_try, at_or_never}
use Rattle.retry_plan.specs.declared.NextTry.{NextTry}
use Rattle.retry_plan.specs.declared.NextTry.TheVariants.{GiveUp}
use Rattle.place_openings.specs.declared.given_up.GivenUp.{GivenUp}
use Rattle.place_openings.specs.declared.one_place.Opening.{Opening}
use Rattle.place_openings.specs.Attempts.{first_unopened, first_unlistened, CanCount, FirstCanCount, attempts_in, given_up_by, attempts_told, Spends, GivesUp, FirstGivesUp}
use Rattle.place_openings.specs.Queries.{gave_up}
use Rattle.place_openings.specs.Stands.{IsOpening, Each, AreOpenings, tried_at}
use Rattle.place_openings.specs.Tried.{is_end_of_tries}
use Rattle.place_openings.proofs.Asked.{next_is, no_failures, place_gave_up, out_by}
use Rattle.place_openings.proofs.Tries.{some_left, gives_up}

-- ---- a plan that gives up

-- what a plan says, whichever failures it stands for
abbrev pub SaysNext : PlanLedger → NextTry → Type 0
SaysNext plan next = (retry : ℕ) (forever : Bool) (interval : ℕ) (failures : List ℕ) → PlanIs retry forever interval failures plan → next ≡ next_try retry forever interval failures

-- a list of failures that is as long as can be counted
abbrev cut : ℕ → List ℕ → List ℕ
cut m failures = take m failures

and_of_false : (b x : Bool) → x ≡ false → (b && x) ≡ false
and_of_false true x e = e
and_of_false false x e = refl

not_below : (retry m n : ℕ) → (retry < suc m → ⊥) → n ≤ suc m → nat_lt retry n ≡ false
not_below retry m n above le = go (nat_lt retry n) refl
  where
    go : (b : Bool) → nat_lt retry n ≡ b → nat_lt retry n ≡ false
    go false e = e
    go true e = let h = ltb-true retry n e in let k : retry < suc m = omega (arith, h, le) in absurd (above k)

same_count : (m n k : ℕ) → k ≡ min m n → min (suc k) (suc m) ≡ min (suc n) (suc m)
same_count m n k e = omega (arith, e)

short : (m n k : ℕ) → k ≡ min m n → suc k ≤ suc m
short m n k e = omega (arith, e)

-- a plan that gives up after as many failures as can be counted would give up no sooner
can_count_by : (m : ℕ) → suc m ≡ 2 ^ 64 - 1 → (retry : ℕ) (forever : Bool) (interval : ℕ) (f : ℕ) (fs : List ℕ) (plan : PlanLedger) (next : NextTry) → PlanIs retry forever interval (f ∷ fs) plan → SaysNext plan next → is_out_of_tries retry forever (f ∷ fs) ≡ true → (retry < suc m → ⊥) → ⊥
can_count_by m top retry forever interval f fs plan next is says out above =
    let size = length-take m fs in
    let other : PlanIs retry forever interval (f ∷ cut m fs) plan = record {
      retry_is = is.retry_is;
      forever_is = is.forever_is;
      interval_is = is.interval_is;
      attempts_is = is.attempts_is ∙ subst (λ x. min (suc (length fs)) x ≡ min (suc (length (cut m fs))) x) top (sym (same_count m (length fs) (length (cut m fs)) size));
      last_is = is.last_is;
    } in
    let left : is_out_of_tries retry forever (f ∷ cut m fs) ≡ false = and_of_false (not forever && not (retry == 2 ^ 64 - 1)) (nat_lt retry (suc (length (cut m fs)))) (not_below retry m (suc (length (cut m fs))) above (short m (length fs) (length (cut m fs)) size)) in
    let one = ap is_end_of_tries (says retry forever interval (f ∷ fs) is) ∙ (gives_up retry forever interval (f ∷ fs) ∙ out) in
    let two = ap is_end_of_tries (says retry forever interval (f ∷ cut m fs) other) ∙ (gives_up retry forever interval (f ∷ cut m fs) ∙ left) in
    false≢true (sym two ∙ one)

none_by_due : (due : Option ℕ) → attempts_in (at_or_never due) ≡ None
none_by_due None = refl
none_by_due (Some m) = refl

spent_by : (retry : ℕ) (forever : Bool) (failures : List ℕ) (due : Option ℕ) (out : Bool) → is_out_of_tries retry forever failures ≡ out → (out ≡ true → retry < 2 ^ 64 - 1) → Spends retry forever failures (attempts_in (if out then GiveUp (attempts_of failures) else at_or_never due))
spent_by retry forever failures due true e can = record { out = e; attempts_is = refl; can_count = can refl }
spent_by retry forever failures due false e can = subst (Spends retry forever failures) (sym (none_by_due due)) e

below : (retry m : ℕ) → ((retry < m → ⊥) → ⊥) → retry < m
below retry m twice = go (nat_lt retry m) refl
  where
    go : (b : Bool) → nat_lt retry m ≡ b → retry < m
    go true e = ltb-true retry m e
    go false e = let k = ltb-false retry m e in absurd (twice (λ lt. let x : ⊥ = omega (arith, k, lt) in x))

pub spends : (retry : ℕ) (forever : Bool) (interval : ℕ) (failures : List ℕ) (plan : PlanLedger) (next : NextTry) → PlanIs retry forever interval failures plan → SaysNext plan next → Spends retry forever failures (attempts_in next)
spends retry forever interval [] plan next is says = subst (λ x. Spends retry forever [] (attempts_in x)) (sym (says retry forever interval [] is)) (some_left retry forever)
spends retry forever interval (f ∷ fs) plan next is says =
    let can = λ (out : is_out_of_tries retry forever (f ∷ fs) ≡ true). below retry (2 ^ 64 - 1) (can_count_by (2 ^ 64 - 2) refl retry forever interval f fs plan next is says out) in
    subst (λ x. Spends retry forever (f ∷ fs) (attempts_in x)) (sym (says retry forever interval (f ∷ fs) is)) (spent_by retry forever (f ∷ fs) (next_due interval (f ∷ fs)) (is_out_of_tries retry forever (f ∷ fs)) refl can)

-- ---- one place

same_equal : (a b : Bool) → same_bool a b ≡ true → a ≡ b
same_equal true true e = refl
same_equal true false e = absurd (false≢true e)
same_equal false true e = absurd (false≢true e)
same_equal false false e = refl

and_false_first : (a x : Bool) → a ≡ false → (a && x) ≡ false
and_false_first true x e = absurd (false≢true (sym e))
and_false_first false x e = refl

gives_by : (c : Config) (past : List Act) (p : Place) (d has_door : Bool) (side : Side) (attempts : Option ℕ) → d ≡ has_own_door c p → side ≡ p.side → Spends (options_of c p).tries.retry (options_of c p).tries.forever (failures past (tried_at d p)) attempts → GivesUp c past has_door p (given_up_by side (same_bool d has_door) attempts)
gives_by c past p d has_door side None own here spent =
    and_of_false (same_bool (has_own_door c p) has_door) (out_of_tries c past (tried_at (has_own_door c p) p)) (subst (λ b. out_of_tries c past (tried_at b p) ≡ false) own (sym (out_by d c past p) ∙ spent))
gives_by c past p d has_door side (Some a) own here spent = go (same_bool d has_door) refl
  where
    go : (b : Bool) → same_bool d has_door ≡ b → GivesUp c past has_door p (only_if b (record { side = side; attempts = a }))
    go true e =
        record {
          out = and_from (same_bool (has_own_door c p) has_door) (out_of_tries c past (tried_at (has_own_door c p) p)) (ap (λ b. same_bool b has_door) (sym own) ∙ e) (subst (λ b. out_of_tries c past (tried_at b p) ≡ true) own (sym (out_by d c past p) ∙ spent.out));
          side_is = here;
          attempts_is = subst (λ b. a ≡ attempts_of (failures past (tried_at b p))) (same_equal d has_door e) spent.attempts_is;
          can_count = spent.can_count;
        }
    go false e =
        and_false_first (same_bool (has_own_door c p) has_door) (out_of_tries c past (tried_at (has_own_door c p) p)) (ap (λ b. same_bool b has_door) (sym own) ∙ e)

pub gives : (c : Config) (past : List Act) (p : Place) (o : Opening) (has_door : Bool) (attempts : Option ℕ) → IsOpening c past p o → Spends (options_of c p).tries.retry (options_of c p).tries.forever (failures past (tried_at o.has_door p)) attempts → GivesUp c past has_door p (given_up_by o.place.side (same_bool o.has_door has_door) attempts)
gives c past p o has_door attempts i spent =
    gives_by c past p o.has_door has_door o.place.side attempts i.has_door_is (ap (λ (x : Place). x.side) i.place_is) spent

-- ---- the first of several places

-- the places that are left, after some that have tries
pub record After (c : Config) (past : List Act) (has_door : Bool) (ps : List Place) (os : List Opening) : Type 0 where
  pub left : List Place
  pub each : Each c past left os
  pub same : (answer : Option GivenUp) → FirstGivesUp c past has_door left answer → FirstGivesUp c past has_door ps answer

by_first : (c : Config) (past : List Act) (has_door : Bool) (ps left : List Place) (o : Opening) (os : List Opening) (g : GivenUp) → Each c past left (o ∷ os) → ((answer : Option GivenUp) → FirstGivesUp c past has_door left answer → FirstGivesUp c past has_door ps answer) → ((p : Place) → IsOpening c past p o → GivesUp c past has_door p (Some g)) → FirstGivesUp c past has_door ps (Some g)
by_first c past has_door ps [] o os g each same told = absurd each
by_first c past has_door ps (p ∷ left) o os g each same told =
    let here = told p each.0 in
    same (Some g) ((λ _. here), (λ none. absurd (false≢true (sym none ∙ here.out))))

past_one : (c : Config) (past : List Act) (has_door : Bool) (ps left : List Place) (o : Opening) (os : List Opening) → Each c past left (o ∷ os) → ((answer : Option GivenUp) → FirstGivesUp c past has_door left answer → FirstGivesUp c past has_door ps answer) → ((p : Place) → IsOpening c past p o → gave_up c past has_door p ≡ false) → After c past has_door ps os
past_one c past has_door ps [] o os each same none = absurd each
past_one c past has_door ps (p ∷ left) o os each same none =
    let here = none p each.0 in
    record { left = left; each = each.1; same = λ answer rest. same answer ((λ out. absurd (false≢true (sym here ∙ out))), (λ _. rest)) }

by_none : (c : Config) (past : List Act) (has_door : Bool) (ps left : List Place) → Each c past left [] → ((answer : Option GivenUp) → FirstGivesUp c past has_door left answer → FirstGivesUp c past has_door ps answer) → FirstGivesUp c past has_door ps None
by_none c past has_door ps [] each same = same None refl
by_none c past has_door ps (p ∷ left) each same = absurd each

pub first_found : (c : Config) (past : List Act) (has_door : Bool) (ps : List Place) (xs : List Opening) (i : ℕ) (x : Opening) (g : GivenUp) → i < length xs → x ≡ get_or xs i x → After c past has_door ps ((drop i xs)) → ((p : Place) → IsOpening c past p x → GivesUp c past has_door p (Some g)) → FirstGivesUp c past has_door ps (Some g)
first_found c past has_door ps xs i x g lt e a told =
    by_first c past has_door ps a.left x ((drop (suc i) xs)) g (subst (Each c past a.left) (next_is xs i x lt e) a.each) a.same told

pub one_passed : (c : Config) (past : List Act) (has_door : Bool) (ps : List Place) (xs : List Opening) (i : ℕ) (x : Opening) → i < length xs → x ≡ get_or xs i x → After c past has_door ps ((drop i xs)) → ((p : Place) → IsOpening c past p x → gave_up c past has_door p ≡ false) → After c past has_door ps ((drop (suc i) xs))
one_passed c past has_door ps xs i x lt e a none =
    past_one c past has_door ps a.left x ((drop (suc i) xs)) (subst (Each c past a.left) (next_is xs i x lt e) a.each) a.same none

pub none_found : (c : Config) (past : List Act) (has_door : Bool) (ps : List Place) (xs : List Opening) (i : ℕ) → length xs ≤ i → After c past has_door ps ((drop i xs)) → FirstGivesUp c past has_door ps None
none_found c past has_door ps xs i le a =
    by_none c past has_door ps a.left (subst (Each c past a.left) ((drop_all i xs le)) a.each) a.same

-- ---- openings and listenings

-- what is told of a place, by whether it is out of tries
pub record Tells (c : Config) (past : List Act) (ps : List Place) (answer : Option GivenUp) : Type 0 where
  pub first : answer ≡ first_unopened c past ps
  pub can_count : FirstCanCount c past ps

abbrev given_up : Side → ℕ → GivenUp
given_up side attempts = record { side = side; attempts = attempts }

equal_given_up : (g h : GivenUp) → g.side ≡ h.side → g.attempts ≡ h.attempts → g ≡ h
equal_given_up g h s a = ap (λ x. given_up x g.attempts) s ∙ ap (given_up h.side) a

one_opening : (c : Config) (past : List Act) (p : Place) (ps : List Place) (answer : Option GivenUp) (out : Bool) → out_of_tries c past p ≡ out → gave_up c past false p ≡ out → (gave_up c past false p ≡ true → GivesUp c past false p answer) → (out ≡ false → Tells c past ps answer) → (answer ≡ or_else (only_if out (record { side = p.side; attempts = attempts_of (failures past p) })) (first_unopened c past ps)) × (out ≡ true → CanCount c p) × (out ≡ false → FirstCanCount c past ps)
one_opening c past p ps answer false e k told rest =
    let r = rest refl in
    (r.first, (λ h. absurd (false≢true h)), (λ _. r.can_count))
one_opening c past p ps None true e k told rest = absurd (false≢true (sym (told k) ∙ k))
one_opening c past p ps (Some g) true e k told rest =
    let h = told k in
    (ap Some (equal_given_up g (record { side = p.side; attempts = attempts_of (failures past p) }) h.side_is h.attempts_is), (λ _. h.can_count), (λ x. absurd (false≢true (sym x))))

openings_told : (c : Config) (past : List Act) (ps : List Place) (os : List Opening) (answer : Option GivenUp) → Each c past ps os → FirstGivesUp c past false ps answer → Tells c past ps answer
openings_told c past [] os answer each first = record { first = first; can_count = tt }
openings_told c past (p ∷ ps) [] answer each first = absurd each
openings_told c past (p ∷ ps) (o ∷ os) answer each first =
    let i = each.0 in
    let same = place_gave_up (has_own_door c p) c past p (λ h. no_failures c past p (i.untried (i.listens_is ∙ (and_parts (listens_at c p) _ h).0))) in
    let ih = openings_told c past ps os answer each.1 in
    let k = one_opening c past p ps answer (out_of_tries c past p) refl same first.0 (λ none. ih (first.1 (same ∙ none))) in
    record { first = k.0; can_count = (k.1, k.2) }

pub opening_told : (c : Config) (past : List Act) (s : ℕ) (os : List Opening) (answer : Option GivenUp) → AreOpenings c past s os → FirstGivesUp c past false (places c s) answer → Tells c past (places c s) answer
opening_told c past s os answer are first = openings_told c past (places c s) os answer are.each first

pub record TellsDoor (c : Config) (past : List Act) (ds : List Place) (answer : Option GivenUp) : Type 0 where
  pub first : attempts_told answer ≡ first_unlistened c past ds
  pub can_count : FirstCanCount c past ds

one_door : (c : Config) (past : List Act) (p : Place) (ds : List Place) (answer : Option GivenUp) (out : Bool) → out_of_tries c past (door_of p) ≡ out → gave_up c past true p ≡ out → (gave_up c past true p ≡ true → GivesUp c past true p answer) → (out ≡ false → TellsDoor c past ds answer) → (attempts_told answer ≡ or_else (only_if out (attempts_of (failures past (door_of p)))) (first_unlistened c past ds)) × (out ≡ true → CanCount c p) × (out ≡ false → FirstCanCount c past ds)
one_door c past p ds answer false e k told rest =
    let r = rest refl in
    (r.first, (λ h. absurd (false≢true h)), (λ _. r.can_count))
one_door c past p ds None true e k told rest = absurd (false≢true (sym (told k) ∙ k))
one_door c past p ds (Some g) true e k told rest =
    let h = told k in
    (ap Some h.attempts_is, (λ _. h.can_count), (λ x. absurd (false≢true (sym x))))

own_gave_up : (b out : Bool) → b ≡ true → (same_bool b true && out) ≡ out
own_gave_up true out e = refl
own_gave_up false out e = absurd (false≢true e)

no_own : (b out : Bool) → b ≡ false → (same_bool b true && out) ≡ false
no_own true out e = absurd (false≢true (sym e))
no_own false out e = refl

pub doors_told : (c : Config) (past : List Act) (ps : List Place) (answer : Option GivenUp) → FirstGivesUp c past true ps answer → TellsDoor c past (map door_of (filter (has_own_door c) ps)) answer
doors_told c past [] answer first = record { first = ap attempts_told first; can_count = tt }
doors_told c past (p ∷ ps) answer first = go (has_own_door c p) refl (doors_told c past ps answer)
  where
    ds : List Place
    ds = map door_of (filter (has_own_door c) ps)

    go : (b : Bool) → has_own_door c p ≡ b → (FirstGivesUp c past true ps answer → TellsDoor c past ds answer) → TellsDoor c past (map door_of (cond b (p ∷ filter (has_own_door c) ps) (filter (has_own_door c) ps))) answer
    go true own ih =
        let here = ap (λ b. same_bool b true && out_of_tries c past (tried_at b p)) own in
        let k = one_door c past p ds answer (out_of_tries c past (door_of p)) refl here first.0 (λ none. ih (first.1 (here ∙ none))) in
        record { first = k.0; can_count = (k.1, k.2) }
    go false own ih = ih (first.1 (no_own (has_own_door c p) (out_of_tries c past (tried_at (has_own_door c p) p)) own))
