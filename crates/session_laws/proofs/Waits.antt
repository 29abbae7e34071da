-- The whole waits until the least moment that a part waits for.
use Rattle.std.proofs.Common.{◌≡◌, refl, sym, ap, ◌∙◌, ℕ, zero, suc, ◌<◌, ◌≤◌, ◌^◌, ◌⊎◌, inl, inr, Bool, true, false, cond, min, ◌||◌, ◌&&◌, nat_lt, List, Option, Some, None, arith}
use Rattle.std.proofs.lemmas.Bool.{cases_lt, ltb-true, or_parts, cases_Bool}
use Rattle.relay_model.specs.declared.places.Way.TheVariants.{LeftToRight, RightToLeft}
use Rattle.relay_model.specs.declared.commands.Config.{Config}
use Rattle.relay_model.specs.declared.acts.Act.{Act}
use Rattle.relay_model.specs.Choices.{earlier, later, some_below, least_below}
use Rattle.relay_model.specs.History.{now}
use Rattle.relay_model.specs.Sessions.{numbers}
use Rattle.relay_model.specs.Moments.{closing_moment, idle_moment}
use Rattle.relay_model.specs.Cause.{running}
use Rattle.relay_model.specs.Calls.{call, door_call}
use Rattle.relay_model.specs.Rest.{accepts, try_moment, input_moment, timer_moment, session_work, session_moment, door_moment, until_of}
use Rattle.relay_model.specs.Waits.{works}
use Rattle.relay_laws.proofs.Least.{LeastOf, least, none_at_all, own_least, join_least, below_least, Among}
use Rattle.session_laws.specs.Wholes.{WaitsUntil, IsLeastWait}

-- ---- moments ahead

abbrev pub IsAhead : ℕ → Option ℕ → Type 0
IsAhead at o = (m : ℕ) → o ≡ Some m → at < m

later_ahead : (at : ℕ) (o : Option ℕ) → IsAhead at (later at o)
later_ahead at None m e = let x : ⊥ = cc in absurd x
later_ahead at (Some k) m e = go (nat_lt at k) (nat_lt k (2 ^ 64)) refl e
  where
    go : (a b : Bool) → nat_lt at k ≡ a → cond (a && b) (Some k) None ≡ Some m → at < m
    go true true h f = let x = ltb-true at k h in let y : k ≡ m = cc in omega (arith, x, y)
    go true false h f = let x : ⊥ = cc in absurd x
    go false b h f = let x : ⊥ = cc in absurd x

earlier_ahead : (at : ℕ) (a b : Option ℕ) → IsAhead at a → IsAhead at b → IsAhead at (earlier a b)
earlier_ahead at None b f g m e = g m e
earlier_ahead at (Some x) None f g m e = f m e
earlier_ahead at (Some x) (Some y) f g m e = let p = f x refl in let q = g y refl in let r : min x y ≡ m = cc in omega (arith, p, q, r)

if_ahead : (at : ℕ) (b : Bool) (o : Option ℕ) → IsAhead at o → IsAhead at (cond b o None)
if_ahead at true o f m e = f m e
if_ahead at false o f m e = let x : ⊥ = cc in absurd x

moment_ahead : (c : Config) (past : List Act) (s : ℕ) → IsAhead (now past) (session_moment c past s)
moment_ahead c past s =
    let at = now past in
    earlier_ahead at (timer_moment c past s) _
    (if_ahead at (running c past s) _ (earlier_ahead at (later at (closing_moment c past s)) (later at (idle_moment c past s)) (later_ahead at (closing_moment c past s)) (later_ahead at (idle_moment c past s))))
    (earlier_ahead at (earlier (later at (input_moment c past s LeftToRight)) (later at (input_moment c past s RightToLeft))) (later at (try_moment (call c past s)))
    (earlier_ahead at (later at (input_moment c past s LeftToRight)) (later at (input_moment c past s RightToLeft)) (later_ahead at (input_moment c past s LeftToRight)) (later_ahead at (input_moment c past s RightToLeft)))
    (later_ahead at (try_moment (call c past s))))

-- ---- what waits until now

not_before : (b : Bool) (at m : ℕ) (o : Option ℕ) → IsAhead at o → cond b (Some at) o ≡ Some m → at ≤ m
not_before true at m o f e = let x : at ≡ m = cc in omega (arith, x)
not_before false at m o f e = let x = f m e in omega (arith, x)

no_wait_before : (c : Config) (past : List Act) (m : ℕ) → WaitsUntil c past m → now past ≤ m
no_wait_before c past m (inl e) = not_before (accepts (door_call c past)) (now past) m (door_moment c past) (later_ahead (now past) (try_moment (door_call c past))) e
no_wait_before c past m (inr w) = not_before (session_work c past w.0) (now past) m (session_moment c past w.0) (moment_ahead c past w.0) w.2

-- the number below the bound of which the test holds
found : (test : ℕ → Bool) (k : ℕ) → some_below test k ≡ true → (s : ℕ) × (s < k) × (test s ≡ true)
found test zero e = let x : ⊥ = cc in absurd x
found test (suc k) e = go (test k) refl e (found test k)
  where
    go : (b : Bool) → test k ≡ b → (b || some_below test k) ≡ true → (some_below test k ≡ true → (s : ℕ) × (s < k) × (test s ≡ true)) → (s : ℕ) × (s < suc k) × (test s ≡ true)
    go true h f ih = (k, omega arith, h)
    go false h f ih = let r = ih f in let below = r.1 in (r.0, omega (arith, below), r.2)

pub none_found : (test : ℕ → Bool) (k : ℕ) → some_below test k ≡ false → (s : ℕ) → s < k → test s ≡ false
none_found test zero e s h = absurd (omega (arith, h))
none_found test (suc k) e s h = let parts = or_parts (test k) (some_below test k) e in go (cases_lt s k) parts.0 (none_found test k parts.1 s)
  where
    go : (s < k) ⊎ (k ≤ s) → test k ≡ false → (s < k → test s ≡ false) → test s ≡ false
    go (inl below) here ih = ih below
    go (inr above) here ih = let same : s ≡ k = omega (arith, h, above) in ap test same ∙ here

waits_now : (c : Config) (past : List Act) → works c past ≡ true → WaitsUntil c past (now past)
waits_now c past w = go (accepts (door_call c past)) refl w
  where
    go : (b : Bool) → accepts (door_call c past) ≡ b → (b || some_below (session_work c past) (numbers c past)) ≡ true → WaitsUntil c past (now past)
    go true e f = inl (rw e refl)
    go false e f = let r = found (session_work c past) (numbers c past) f in let t = r.2 in inr (r.0, r.1, rw t refl)

at_now : (c : Config) (past : List Act) (until : Option ℕ) → works c past ≡ true → IsLeastWait c past until → until ≡ Some (now past)
at_now c past None w l = absurd (l (now past) (waits_now c past w))
at_now c past (Some m) w l =
    let above = no_wait_before c past m l.0 in
    let below = l.1 (now past) (waits_now c past w) in
    ap Some (omega (arith, above, below))

-- ---- what waits for a moment ahead

abbrev pub Falls : Config → List Act → ℕ → Type 0
Falls c past m = (door_moment c past ≡ Some m) ⊎ Among (session_moment c past) (numbers c past) m

-- while nothing has work left, each part waits for its moment
to_falls : (c : Config) (past : List Act) (m : ℕ) → works c past ≡ false → WaitsUntil c past m → Falls c past m
to_falls c past m w (inl e) = let p = or_parts (accepts (door_call c past)) (some_below (session_work c past) (numbers c past)) w in inl (rw p.0 at e)
to_falls c past m w (inr t) =
    let p = or_parts (accepts (door_call c past)) (some_below (session_work c past) (numbers c past)) w in
    let k = none_found (session_work c past) (numbers c past) p.1 t.0 t.1 in
    let e = t.2 in
    inr (t.0, t.1, rw k at e)

from_falls : (c : Config) (past : List Act) (m : ℕ) → works c past ≡ false → Falls c past m → WaitsUntil c past m
from_falls c past m w (inl e) = let p = or_parts (accepts (door_call c past)) (some_below (session_work c past) (numbers c past)) w in inl (rw p.0 e)
from_falls c past m w (inr t) =
    let p = or_parts (accepts (door_call c past)) (some_below (session_work c past) (numbers c past)) w in
    let k = none_found (session_work c past) (numbers c past) p.1 t.0 t.1 in
    let e = t.2 in
    inr (t.0, t.1, rw k e)

only_least : (c : Config) (past : List Act) (until o : Option ℕ) → works c past ≡ false → IsLeastWait c past until → LeastOf (Falls c past) o → until ≡ o
only_least c past None o w l (least m e p below) = absurd (l m (from_falls c past m w p))
only_least c past None o w l (none_at_all e never) = sym e
only_least c past (Some k) o w l (least m e p below) =
    let one = l.1 m (from_falls c past m w p) in
    let two = below k (to_falls c past k w l.0) in
    ap Some (omega (arith, one, two)) ∙ sym e
only_least c past (Some k) o w l (none_at_all e never) = absurd (never k (to_falls c past k w l.0))

pub least_wait : (c : Config) (past : List Act) (until : Option ℕ) → IsLeastWait c past until → until ≡ until_of c past
least_wait c past until l = go (cases_Bool (works c past))
  where
    go : (works c past ≡ true) ⊎ (works c past ≡ false) → until ≡ until_of c past
    go (inl w) = rw w (at_now c past until w l)
    go (inr w) =
        rw w
        (only_least c past until _ w l
        (join_least (λ m. door_moment c past ≡ Some m) (Among (session_moment c past) (numbers c past)) (door_moment c past) (least_below (session_moment c past) (numbers c past)) (own_least (door_moment c past))
        (below_least (session_moment c past) (numbers c past))))
