-- Only things of sessions that have begun are held.
use Rattle.std.proofs.Common.{◌≡◌, refl, sym, subst, ◌∙◌, ℕ, suc, ◌<◌, ◌≤◌, Bool, true, false, not, cond, ◌&&◌, ◌||◌, ◌==◌, nat_le, nat_lt, is_none, List, [], ◌∷◌, ◌++◌, map, filter, Option, Some, None, arith, inl, inr, ◌⊎◌}
use Rattle.std.specs.List.{list_any}
use Rattle.std.proofs.lemmas.Bool.{false≢true, and_parts, or_parts, or_from, ltb-true, eqb-true, le-ltb, ne_eqb, false_from_ne_true}
use Rattle.std.proofs.lemmas.List.Folds.{list_any-append}
use Rattle.relay_model.specs.declared.places.Side.{Side}
use Rattle.relay_model.specs.declared.places.Side.TheVariants.{Left, Right}
use Rattle.relay_model.specs.declared.places.Part.{Part}
use Rattle.relay_model.specs.declared.places.Place.{Place}
use Rattle.relay_model.specs.declared.commands.Config.{Config}
use Rattle.relay_model.specs.declared.acts.Act.{Act}
use Rattle.relay_model.specs.declared.acts.Act.TheVariants.{Opened, OpenLater, OpenFailed, Listening, ListenFailed, Accepted, Closed}
use Rattle.relay_model.specs.Places.{same_place, door_of}
use Rattle.relay_model.specs.Choices.{one_more}
use Rattle.relay_model.specs.Configs.{places, parts, place_at, things, own_doors, has_own_door, options_of, listens_at, has_fork, is_left, program_door}
use Rattle.relay_model.specs.History.{now, stage, held, holds_at, woken, failures}
use Rattle.relay_model.specs.declared.stages.Stage.{Stage}
use Rattle.relay_model.specs.declared.stages.Stage.TheVariants.{Untried, Usable, Unsettled, Failed, Met, Waiting, Gone}
use Rattle.relay_model.specs.Arming.{armed_to_accept}
use Rattle.relay_model.specs.Sessions.{permits, live, holds, admitted, is_admission, numbers, next_place}
use Rattle.relay_model.specs.Tries.{next_due}
use Rattle.relay_model.specs.Openings.{out_of_tries, when_due, try_again, is_ready, opening_call, listening_call, peer_call, place_call, first_call}
use Rattle.relay_model.specs.declared.calls.Call.{Call}
use Rattle.relay_model.specs.declared.calls.Call.TheVariants.{Nothing, TryAt, Open, Settle, Listen, Accept, Refuse, Serve}
use Rattle.relay_model.specs.Cause.{cause}
use Rattle.relay_model.specs.Calls.{call, door_cut, enough, full, program_door_call, door_call, called_at}
use Rattle.relay_model.specs.May.{Legal}
use Rattle.relay_laws.proofs.PlaceLemmas.{same_place_equal}

-- ---- what a call opens belongs to a session below the bound

abbrev pub Below : ℕ → Call → Type 0
Below k Nothing = Unit {0}
Below k (TryAt m) = Unit {0}
Below k (Open p) = p.session < k
Below k (Settle p) = p.session < k
Below k (Listen d) = d.session < k
Below k (Accept d p) = p.session < k
Below k (Refuse p) = Unit {0}
Below k (Serve d) = Unit {0}

choice : (k : ℕ) (b : Bool) (one other : Call) → (b ≡ true → Below k one) → (b ≡ false → Below k other) → Below k (cond b one other)
choice k true one other t f = t refl
choice k false one other t f = f refl

due_below : (k at : ℕ) (o : Option ℕ) (wanted : Call) → Below k wanted → Below k (when_due at o wanted)
due_below k at None wanted t = tt
due_below k at (Some m) wanted t = choice k (nat_le m at) wanted (TryAt m) (λ _. t) (λ _. tt)

again_below : (c : Config) (past : List Act) (p : Place) (k : ℕ) (wanted : Call) → Below k wanted → Below k (try_again c past p wanted)
again_below c past p k wanted t = choice k (out_of_tries c past p) Nothing (when_due (now past) (next_due (options_of c p).tries.interval (failures past p)) wanted) (λ _. tt) (λ _. due_below k (now past) (next_due (options_of c p).tries.interval (failures past p)) wanted t)

opening_below : (c : Config) (past : List Act) (k : ℕ) (p : Place) (st : Stage) → p.session < k → Below k (opening_call c past p st)
opening_below c past k p Untried h = h
opening_below c past k p Unsettled h = choice k (woken past p) (Settle p) Nothing (λ _. h) (λ _. tt)
opening_below c past k p Failed h = again_below c past p k (Open p) h
opening_below c past k p st h = tt

listening_below : (c : Config) (past : List Act) (k : ℕ) (d p : Place) (st : Stage) → d.session < k → p.session < k → Below k (listening_call c past d p st)
listening_below c past k d p Untried h g = h
listening_below c past k d p Failed h g = again_below c past d k (Listen d) h
listening_below c past k d p Waiting h g = choice k (armed_to_accept past d) (Accept d p) Nothing (λ _. g) (λ _. tt)
listening_below c past k d p st h g = tt

peer_below : (c : Config) (past : List Act) (k : ℕ) (p : Place) (st : Stage) → p.session < k → Below k (peer_call c past p st)
peer_below c past k p (Met peer) h =
    choice k (permits c p peer) (cond (held past (door_of p)) (Serve (door_of p)) Nothing) (Refuse p)
    (λ _. choice k (held past (door_of p)) (Serve (door_of p)) Nothing (λ _. tt) (λ _. tt))
    (λ _. tt)
peer_below c past k p st h = listening_below c past k (door_of p) p (stage past (door_of p)) h h

place_below : (c : Config) (past : List Act) (k : ℕ) (p : Place) → p.session < k → Below k (place_call c past p)
place_below c past k p h =
    choice k (has_own_door c p) (peer_call c past p (stage past p)) (cond (listens_at c p) Nothing (opening_call c past p (stage past p)))
    (λ _. peer_below c past k p (stage past p) h)
    (λ _. choice k (listens_at c p) Nothing (opening_call c past p (stage past p)) (λ _. tt) (λ _. opening_below c past k p (stage past p) h))

first_below : (c : Config) (past : List Act) (k s : ℕ) (side : Side) (ps : List Part) (rest : List Place) → s < k → Below k (first_call c past rest) → Below k (first_call c past (map (place_at s side) ps ++ rest))
first_below c past k s side [] rest h g = g
first_below c past k s side (part ∷ ps) rest h g =
    let ih = first_below c past k s side ps rest h g in
    choice k (is_ready c past (place_at s side part)) (first_call c past (map (place_at s side) ps ++ rest)) (place_call c past (place_at s side part)) (λ _. ih) (λ _. place_below c past k (place_at s side part) h)

first_below-right : (c : Config) (past : List Act) (k s : ℕ) (ps : List Part) → s < k → Below k (first_call c past (map (place_at s Right) ps))
first_below-right c past k s [] h = tt
first_below-right c past k s (part ∷ ps) h =
    let ih = first_below-right c past k s ps h in
    choice k (is_ready c past (place_at s Right part)) (first_call c past (map (place_at s Right) ps)) (place_call c past (place_at s Right part)) (λ _. ih) (λ _. place_below c past k (place_at s Right part) h)

live_below : (fork : Bool) (c : Config) (past : List Act) (s : ℕ) → cond fork (nat_lt s (admitted c past) && holds c past s) (s == 0) ≡ true → s < suc (cond fork (admitted c past) 1)
live_below true c past s e = let h = ltb-true s (admitted c past) (and_parts (nat_lt s (admitted c past)) (holds c past s) e).0 in omega (arith, h)
live_below false c past s e = let h = eqb-true s 0 e in omega (arith, h)

call_below : (c : Config) (past : List Act) (s : ℕ) → Below (suc (numbers c past)) (call c past s)
call_below c past s =
    choice (suc (numbers c past)) (live c past s && is_none (cause c past s)) (first_call c past (places c s)) Nothing
    (λ e. let h = live_below (has_fork c) c past s (and_parts (live c past s) (is_none (cause c past s)) e).0 in first_below c past (suc (numbers c past)) s Left (parts c Left) (map (place_at s Right) (parts c Right)) h (first_below-right c past (suc (numbers c past)) s (parts c Right) h))
    (λ _. tt)

program_door_below : (c : Config) (past : List Act) (k : ℕ) (st : Stage) → 0 < k → admitted c past < k → Below k (program_door_call c past st)
program_door_below c past k Waiting z h =
    choice k (enough c past) (Serve program_door) (cond (full c past) Nothing (listening_call c past program_door (next_place c past) Waiting))
    (λ _. tt)
    (λ _. choice k (full c past) Nothing (listening_call c past program_door (next_place c past) Waiting) (λ _. tt) (λ _. listening_below c past k program_door (next_place c past) Waiting z h))
program_door_below c past k st z h = listening_below c past k program_door (next_place c past) st z h

forked_below : (fork : Bool) (c : Config) (past : List Act) → not fork ≡ false → admitted c past < suc (cond fork (admitted c past) 1)
forked_below true c past e = omega arith
forked_below false c past e = absurd (false≢true (sym e))

door_below : (c : Config) (past : List Act) → Below (suc (numbers c past)) (door_call c past)
door_below c past =
    choice (suc (numbers c past)) (not (has_fork c) || door_cut past) Nothing (cond (held past (next_place c past)) (Refuse (next_place c past)) (program_door_call c past (stage past program_door)))
    (λ _. tt)
    (λ e. choice (suc (numbers c past)) (held past (next_place c past)) (Refuse (next_place c past)) (program_door_call c past (stage past program_door))
    (λ _. tt)
    (λ _. program_door_below c past (suc (numbers c past)) (stage past program_door) (omega arith) (forked_below (has_fork c) c past (or_parts (not (has_fork c)) (door_cut past) e).0)))

pub called_below : (c : Config) (past : List Act) (p : Place) → Below (suc (numbers c past)) (called_at c past p)
called_below c past p = choice (suc (numbers c past)) (is_left p && has_fork c) (door_call c past) (call c past p.session) (λ _. door_below c past) (λ _. call_below c past p.session)

-- ---- what is held has begun

more_numbers : (fork b : Bool) (n : ℕ) → cond fork n 1 ≤ cond fork (one_more b n) 1
more_numbers true true n = omega arith
more_numbers true false n = omega arith
more_numbers false b n = omega arith

-- a holding that an act begins is of a session below the bound, or it stood before
step : (p q : Place) (b : Bool) (st old : Stage) (k : ℕ) → same_place q p ≡ b → q.session < k → (holds_at old ≡ true → p.session < k) → holds_at (cond b st old) ≡ true → p.session < k
step p q true st old k e h ih t = subst (λ x. x.session < k) (same_place_equal q p e) h
step p q false st old k e h ih t = ih t

-- an act that ends a holding begins none
gone : (b : Bool) (st old : Stage) → holds_at st ≡ false → holds_at (cond b st old) ≡ true → holds_at old ≡ true
gone true st old f t = absurd (false≢true (sym f ∙ t))
gone false st old f t = t

opened_below : (c : Config) (past : List Act) (q : Place) → (called_at c past q ≡ Open q) ⊎ (called_at c past q ≡ Settle q) → q.session < suc (numbers c past)
opened_below c past q (inl e) = subst (Below (suc (numbers c past))) e (called_below c past q)
opened_below c past q (inr e) = subst (Below (suc (numbers c past))) e (called_below c past q)

pub begun : (c : Config) (n : ℕ) (past : List Act) (p : Place) → Legal c n past → held past p ≡ true → p.session < suc (numbers c past)
begun c n [] p legal h = absurd (false≢true h)
begun c n (Opened q ∷ past) p legal h = let ih : held past p ≡ true → p.session < suc (numbers c past) = begun c n past p legal.1 in step p q (same_place q p) Usable (stage past p) (suc (numbers c past)) refl (opened_below c past q legal.0.1) ih h
begun c n (OpenLater q ∷ past) p legal h = let ih : held past p ≡ true → p.session < suc (numbers c past) = begun c n past p legal.1 in step p q (same_place q p) Unsettled (stage past p) (suc (numbers c past)) refl (opened_below c past q legal.0.1) ih h
begun c n (OpenFailed q ∷ past) p legal h = begun c n past p legal.1 (gone (same_place q p) Failed (stage past p) refl h)
begun c n (Listening q ∷ past) p legal h = let ih : held past p ≡ true → p.session < suc (numbers c past) = begun c n past p legal.1 in step p q (same_place q p) Waiting (stage past p) (suc (numbers c past)) refl (subst (Below (suc (numbers c past))) legal.0.1 (called_below c past q)) ih h
begun c n (ListenFailed q ∷ past) p legal h = begun c n past p legal.1 (gone (same_place q p) Failed (stage past p) refl h)
begun c n (Accepted q peer ∷ past) p legal h =
    let ih : held past p ≡ true → p.session < suc (numbers c past) = begun c n past p legal.1 in
    let b = step p q (same_place q p) (Met peer) (stage past p) (suc (numbers c past)) refl (subst (Below (suc (numbers c past))) legal.0.1.1 (called_below c past q)) ih h in
    let m = more_numbers (has_fork c) (is_admission c q peer) (admitted c past) in
    omega (arith, b, m)
begun c n (Closed q why ∷ past) p legal h = begun c n past p legal.1 (gone (same_place q p) (Gone why) (stage past p) refl h)
begun c n (act ∷ past) p legal h = begun c n past p legal.1 h

-- ---- sessions that haven't begun

none_mapped : (test : Place → Bool) (s : ℕ) (side : Side) (ps : List Part) → ((p : Place) → p.session ≡ s → test p ≡ false) → list_any test (map (place_at s side) ps) ≡ false
none_mapped test s side [] h = refl
none_mapped test s side (part ∷ ps) h = or_from (test (place_at s side part)) (list_any test (map (place_at s side) ps)) (h (place_at s side part) refl) (none_mapped test s side ps h)

none_doors : (test keep : Place → Bool) (s : ℕ) (side : Side) (ps : List Part) (rest : List Place) → ((p : Place) → p.session ≡ s → test p ≡ false) → list_any test (map door_of (filter keep rest)) ≡ false → list_any test (map door_of (filter keep (map (place_at s side) ps ++ rest))) ≡ false
none_doors test keep s side [] rest h g = g
none_doors test keep s side (part ∷ ps) rest h g = go (keep (place_at s side part)) (none_doors test keep s side ps rest h g)
  where
    go : (b : Bool) → list_any test (map door_of (filter keep (map (place_at s side) ps ++ rest))) ≡ false → list_any test (map door_of (cond b (place_at s side part ∷ filter keep (map (place_at s side) ps ++ rest)) (filter keep (map (place_at s side) ps ++ rest)))) ≡ false
    go true ih = or_from (test (door_of (place_at s side part))) (list_any test (map door_of (filter keep (map (place_at s side) ps ++ rest)))) (h (door_of (place_at s side part)) refl) ih
    go false ih = ih

none_doors-right : (test keep : Place → Bool) (s : ℕ) (ps : List Part) → ((p : Place) → p.session ≡ s → test p ≡ false) → list_any test (map door_of (filter keep (map (place_at s Right) ps))) ≡ false
none_doors-right test keep s [] h = refl
none_doors-right test keep s (part ∷ ps) h = go (keep (place_at s Right part)) (none_doors-right test keep s ps h)
  where
    go : (b : Bool) → list_any test (map door_of (filter keep (map (place_at s Right) ps))) ≡ false → list_any test (map door_of (cond b (place_at s Right part ∷ filter keep (map (place_at s Right) ps)) (filter keep (map (place_at s Right) ps)))) ≡ false
    go true ih = or_from (test (door_of (place_at s Right part))) (list_any test (map door_of (filter keep (map (place_at s Right) ps)))) (h (door_of (place_at s Right part)) refl) ih
    go false ih = ih

-- a test that no thing of the session passes
pub none_of_things : (c : Config) (test : Place → Bool) (s : ℕ) → ((p : Place) → p.session ≡ s → test p ≡ false) → list_any test (things c s) ≡ false
none_of_things c test s h =
    list_any-append test (places c s) (own_doors c s)
    ∙ or_from (list_any test (places c s)) (list_any test (own_doors c s))
    (list_any-append test (map (place_at s Left) (parts c Left)) (map (place_at s Right) (parts c Right))
    ∙ or_from (list_any test (map (place_at s Left) (parts c Left))) (list_any test (map (place_at s Right) (parts c Right))) (none_mapped test s Left (parts c Left) h) (none_mapped test s Right (parts c Right) h))
    (none_doors test (has_own_door c) s Left (parts c Left) (map (place_at s Right) (parts c Right)) h (none_doors-right test (has_own_door c) s (parts c Right) h))

-- a session that hasn't begun, and isn't the next, holds nothing
pub unbegun_holds : (c : Config) (n : ℕ) (past : List Act) (s : ℕ) → Legal c n past → suc (numbers c past) ≤ s → holds c past s ≡ false
unbegun_holds c n past s legal far = none_of_things c (held past) s (λ p e. false_from_ne_true (held past p) (λ h. let b = begun c n past p legal h in let x : ⊥ = omega (arith, b, e, far) in x))

unbegun : (fork : Bool) (c : Config) (past : List Act) (s : ℕ) → suc (cond fork (admitted c past) 1) ≤ s → cond fork (nat_lt s (admitted c past) && holds c past s) (s == 0) ≡ false
unbegun true c past s far = let e = le-ltb s (admitted c past) (omega (arith, far)) in subst (λ b. (b && holds c past s) ≡ false) (sym e) refl
unbegun false c past s far = ne_eqb s 0 (λ e. let x : ⊥ = omega (arith, e, far) in x)

pub unbegun_live : (c : Config) (past : List Act) (s : ℕ) → suc (numbers c past) ≤ s → live c past s ≡ false
unbegun_live c past s far = unbegun (has_fork c) c past s far
