-- With `fork`, what is held is a thing of a session or the program door; so nothing is held where none of these holds anything.
use Rattle.std.proofs.Common.{◌≡◌, refl, sym, ap, subst, ◌∙◌, ℕ, zero, suc, ◌<◌, ◌⊎◌, inl, inr, Bool, true, false, cond, ◌&&◌, is_none, List, [], ◌∷◌, ◌++◌, map}
use Rattle.std.specs.List.{list_any}
use Rattle.std.proofs.lemmas.Bool.{false≢true, false_from_ne_true, or_from, or_left, and_right}
use Rattle.relay_model.specs.declared.places.Place.{Place}
use Rattle.relay_model.specs.declared.places.Side.TheVariants.{Left, Right}
use Rattle.relay_model.specs.declared.places.Part.TheVariants.{Reading, Writing}
use Rattle.relay_model.specs.declared.commands.Config.{Config}
use Rattle.relay_model.specs.declared.commands.Ways.{Ways}
use Rattle.relay_model.specs.declared.commands.Ways.TheVariants as ways
use Rattle.relay_model.specs.declared.commands.Address.{Address}
use Rattle.relay_model.specs.declared.commands.Address.TheVariants as addresses
use Rattle.relay_model.specs.declared.acts.Act.{Act}
use Rattle.relay_model.specs.declared.acts.Act.TheVariants.{Opened, OpenLater, OpenFailed, Listening, ListenFailed, Accepted, Closed}
use Rattle.relay_model.specs.Places.{same_place}
use Rattle.relay_model.specs.Choices.{some_below}
use Rattle.relay_model.specs.Configs.{has_fork, is_left, is_of, things, places, parts, parts_of, place_at, own_doors, program_door}
use Rattle.relay_model.specs.History.{stage, held, holds_at}
use Rattle.relay_model.specs.declared.stages.Stage.{Stage}
use Rattle.relay_model.specs.declared.stages.Stage.TheVariants.{Usable, Unsettled, Failed, Met, Waiting, Gone}
use Rattle.relay_model.specs.Sessions.{admitted, holds, live, numbers, next_place, first_part}
use Rattle.relay_model.specs.Openings.{first_call}
use Rattle.relay_model.specs.declared.calls.Call.{Call}
use Rattle.relay_model.specs.declared.calls.Call.TheVariants.{Nothing, Open, Settle, Listen, Accept}
use Rattle.relay_model.specs.Cause.{cause}
use Rattle.relay_model.specs.Calls.{call, called_at, door_call}
use Rattle.relay_model.specs.Outcome.{holds_something}
use Rattle.relay_model.specs.May.{Legal, MayOpen}
use Rattle.relay_model.specs.Laws.{DoorTells}
use Rattle.relay_laws.proofs.PlaceLemmas.{same_place_equal, same_place_self}
use Rattle.relay_laws.proofs.Admissions.{door_says}
use Rattle.relay_session.specs.States.{home}
use Rattle.relay_session.proofs.Own.{NamesOwn, names_own}
use Rattle.relay_session.proofs.Held.{among, holds_not}
use Rattle.program_door.specs.Laws.{IsKnown}
use Rattle.program_door.proofs.Held.{known}

-- ---- what is called for

-- a thing of its session, or the program door
abbrev pub IsThing : Config → Place → Type 0
IsThing c p = (is_of c p.session p ≡ true) ⊎ (p ≡ program_door)

call_own : (c : Config) (past : List Act) (s : ℕ) → NamesOwn c s (call c past s)
call_own c past s = go (live c past s && is_none (cause c past s))
  where
    go : (b : Bool) → NamesOwn c s (cond b (first_call c past (places c s)) Nothing)
    go true = names_own c past s
    go false = tt

by_door_or_session : (c : Config) (past : List Act) (q : Place) (k : Call) (b : Bool) → cond b (door_call c past) (call c past q.session) ≡ k → (door_call c past ≡ k) ⊎ (call c past q.session ≡ k)
by_door_or_session c past q k true e = inl e
by_door_or_session c past q k false e = inr e

called : (c : Config) (past : List Act) (q : Place) (k : Call) → called_at c past q ≡ k → (door_call c past ≡ k) ⊎ (call c past q.session ≡ k)
called c past q k e = by_door_or_session c past q k (is_left q && has_fork c) e

opened : (c : Config) (past : List Act) (q : Place) → MayOpen c past q → IsThing c q
opened c past q (inl e) = go (called c past q (Open q) e)
  where
    go : (door_call c past ≡ Open q) ⊎ (call c past q.session ≡ Open q) → IsThing c q
    go (inl d) = absurd (subst (DoorTells c past) d (door_says c past))
    go (inr k) = inl (subst (NamesOwn c q.session) k (call_own c past q.session)).0.of
opened c past q (inr e) = go (called c past q (Settle q) e)
  where
    go : (door_call c past ≡ Settle q) ⊎ (call c past q.session ≡ Settle q) → IsThing c q
    go (inl d) = absurd (subst (DoorTells c past) d (door_says c past))
    go (inr k) = inl (subst (NamesOwn c q.session) k (call_own c past q.session)).0.of

listened : (c : Config) (past : List Act) (q : Place) → called_at c past q ≡ Listen q → IsThing c q
listened c past q e = go (called c past q (Listen q) e)
  where
    go : (door_call c past ≡ Listen q) ⊎ (call c past q.session ≡ Listen q) → IsThing c q
    go (inl d) = inr (subst (DoorTells c past) d (door_says c past))
    go (inr k) = inl (subst (NamesOwn c q.session) k (call_own c past q.session)).of

-- the place that the next peer gets is one of the next session's
home_among : (f : Place → Bool) (s : ℕ) (w : Ways) (a : Address) (r d : List Place) → f (place_at s Left (first_part (parts_of w a Left))) ≡ true → list_any f ((map (place_at s Left) (parts_of w a Left) ++ r) ++ d) ≡ true
home_among f s ways.Two (addresses.One single) r d e = or_left (f (place_at s Left (first_part (parts_of ways.Two (addresses.One single) Left)))) (list_any f (r ++ d)) e
home_among f s ways.Two (addresses.Two reading writing) r d e = or_left (f (place_at s Left Reading)) (list_any f (place_at s Left Writing ∷ r ++ d)) e
home_among f s ways.OnlyRight a r d e = or_left (f (place_at s Left Reading)) (list_any f (r ++ d)) e
home_among f s ways.OnlyLeft a r d e = or_left (f (place_at s Left Writing)) (list_any f (r ++ d)) e

home_own : (c : Config) (s : ℕ) → is_of c s (home c s) ≡ true
home_own c s = home_among (same_place (home c s)) s c.ways c.left (map (place_at s Right) (parts c Right)) (own_doors c s) (same_place_self (home c s))

accepted : (c : Config) (past : List Act) (q : Place) → ((d : Place) × (called_at c past q ≡ Accept d q)) → IsThing c q
accepted c past q (d, e) = go (called c past q (Accept d q) e)
  where
    go : (door_call c past ≡ Accept d q) ⊎ (call c past q.session ≡ Accept d q) → IsThing c q
    go (inl k) = let t = subst (DoorTells c past) k (door_says c past) in inl (subst (λ (p : Place). is_of c p.session p ≡ true) (sym t.1) (home_own c (admitted c past)))
    go (inr k) = inl (subst (NamesOwn c q.session) k (call_own c past q.session)).1.of

-- ---- what is held

begins : (c : Config) (p q : Place) (b : Bool) (st old : Stage) → same_place q p ≡ b → IsThing c q → (holds_at old ≡ true → IsThing c p) → holds_at (cond b st old) ≡ true → IsThing c p
begins c p q true st old e h ih t = subst (IsThing c) (same_place_equal q p e) h
begins c p q false st old e h ih t = ih t

ends : (b : Bool) (st old : Stage) → holds_at st ≡ false → holds_at (cond b st old) ≡ true → holds_at old ≡ true
ends true st old f t = absurd (false≢true (sym f ∙ t))
ends false st old f t = t

thing : (c : Config) (n : ℕ) (past : List Act) (p : Place) → Legal c n past → held past p ≡ true → IsThing c p
thing c n [] p legal h = absurd (false≢true h)
thing c n (Opened q ∷ past) p legal h = let ih : held past p ≡ true → IsThing c p = thing c n past p legal.1 in begins c p q (same_place q p) Usable (stage past p) refl (opened c past q legal.0.1) ih h
thing c n (OpenLater q ∷ past) p legal h = let ih : held past p ≡ true → IsThing c p = thing c n past p legal.1 in begins c p q (same_place q p) Unsettled (stage past p) refl (opened c past q legal.0.1) ih h
thing c n (OpenFailed q ∷ past) p legal h = thing c n past p legal.1 (ends (same_place q p) Failed (stage past p) refl h)
thing c n (Listening q ∷ past) p legal h = let ih : held past p ≡ true → IsThing c p = thing c n past p legal.1 in begins c p q (same_place q p) Waiting (stage past p) refl (listened c past q legal.0.1) ih h
thing c n (ListenFailed q ∷ past) p legal h = thing c n past p legal.1 (ends (same_place q p) Failed (stage past p) refl h)
thing c n (Accepted q peer ∷ past) p legal h = let ih : held past p ≡ true → IsThing c p = thing c n past p legal.1 in begins c p q (same_place q p) (Met peer) (stage past p) refl (accepted c past q legal.0.1) ih h
thing c n (Closed q why ∷ past) p legal h = thing c n past p legal.1 (ends (same_place q p) (Gone why) (stage past p) refl h)
thing c n (act ∷ past) p legal h = thing c n past p legal.1 h

-- ---- nothing is held

pub all_free : (c : Config) (n : ℕ) (past : List Act) → has_fork c ≡ true → Legal c n past → ((s : ℕ) → s < admitted c past → holds c past s ≡ false) → held past (next_place c past) ≡ false → held past program_door ≡ false → (p : Place) → held past p ≡ false
all_free c n past fork legal none next door p = false_from_ne_true (held past p) (λ h. go h (known c n past p legal fork h) (thing c n past p legal h))
  where
    go : held past p ≡ true → IsKnown c past p → IsThing c p → ⊥
    go h (inl below) (inl own) = false≢true (sym (none p.session below) ∙ among (held past) p (things c p.session) own h)
    go h (inr (inl e)) own = false≢true (sym next ∙ ap (held past) (sym e) ∙ h)
    go h (inr (inr e)) own = false≢true (sym door ∙ ap (held past) (sym e) ∙ h)
    go h k (inr e) = false≢true (sym door ∙ ap (held past) (sym e) ∙ h)

none_below : (test : ℕ → Bool) (k : ℕ) → ((s : ℕ) → test s ≡ false) → some_below test k ≡ false
none_below test zero h = refl
none_below test (suc k) h = or_from (test k) (some_below test k) (h k) (none_below test k h)

pub nothing_held : (c : Config) (past : List Act) → ((p : Place) → held past p ≡ false) → holds_something c past ≡ false
nothing_held c past free =
    or_from (some_below (holds c past) (suc (numbers c past))) (has_fork c && held past program_door)
    (none_below (holds c past) (suc (numbers c past)) (λ s. holds_not c past s free))
    (and_right (has_fork c) (held past program_door) (free program_door))
