-- What is held with `fork`: things of sessions that have begun, the place of a refused peer, and the program door.
use Rattle.std.proofs.Common.{◌≡◌, refl, sym, ap, subst, ◌∙◌, ℕ, ◌<◌, Bool, true, false, cond, ◌&&◌, ◌==◌, nat_lt, List, [], ◌∷◌, inl, inr, ◌⊎◌, arith}
use Rattle.std.specs.List.{list_any}
use Rattle.std.proofs.lemmas.Bool.{false≢true, or_from, and_parts, false_from_ne_true, ltb-true, cases_Bool}
use Rattle.relay_model.specs.declared.places.Place.{Place}
use Rattle.relay_model.specs.declared.commands.Config.{Config}
use Rattle.relay_model.specs.declared.acts.Peer.{Peer}
use Rattle.relay_model.specs.declared.acts.Act.{Act}
use Rattle.relay_model.specs.declared.acts.Act.TheVariants.{Opened, OpenLater, OpenFailed, Listening, ListenFailed, Accepted, Closed}
use Rattle.relay_model.specs.Places.{same_place}
use Rattle.relay_model.specs.Choices.{one_more}
use Rattle.relay_model.specs.Configs.{has_fork, is_left, program_door, is_program_door, things}
use Rattle.relay_model.specs.History.{stage, held, holds_at}
use Rattle.relay_model.specs.declared.stages.Stage.{Stage}
use Rattle.relay_model.specs.declared.stages.Stage.TheVariants.{Usable, Unsettled, Failed, Met, Waiting, Gone}
use Rattle.relay_model.specs.Sessions.{admitted, live, holds, next_place, is_admission}
use Rattle.relay_model.specs.declared.calls.Call.{Call}
use Rattle.relay_model.specs.declared.calls.Call.TheVariants.{Nothing, Open, Settle, Listen, Accept}
use Rattle.relay_model.specs.Calls.{call, called_at, door_call}
use Rattle.relay_model.specs.May.{Legal}
use Rattle.relay_model.specs.Laws.{DoorTells}
use Rattle.relay_model.specs.Frames.{is_at, is_common}
use Rattle.relay_model.specs.Rest.{SessionRests}
use Rattle.relay_laws.proofs.PlaceLemmas.{same_place_equal}
use Rattle.relay_laws.proofs.Admissions.{door_says, call_of_dead}
use Rattle.relay_laws.proofs.OwnThings.{EachOwn, each_thing}
use Rattle.program_door.specs.Steps.{Passes}
use Rattle.program_door.specs.Laws.{IsKnown}
use Rattle.program_door.specs.declared.wishes.DoorWish.{DoorWish}
use Rattle.program_door.specs.declared.wishes.DoorWish.TheVariants as wishes
use Rattle.program_door.specs.Wishes.{Wished, WishTells}
use Rattle.relay_model.specs.Laws.{Tells}
use Rattle.relay_laws.proofs.CallLemmas.{door_tells}
use Rattle.program_door.proofs.Moves.{armed_of, free_of, held_of_refusal, held_of_service}
use Rattle.program_door.proofs.Apart.{next_rests, passes}

-- ---- calls of sessions that have begun

live_below : (fork b : Bool) (s n : ℕ) → fork ≡ true → cond fork (nat_lt s n && b) (s == 0) ≡ true → s < n
live_below true b s n f e = ltb-true s n (and_parts (nat_lt s n) b e).0
live_below false b s n f e = cc

-- a session that calls for something has begun
begun_of : (c : Config) (past : List Act) (s : ℕ) (k : Call) → has_fork c ≡ true → call c past s ≡ k → (Nothing ≡ k → ⊥) → s < admitted c past
begun_of c past s k fork e apart = go (cases_Bool (live c past s))
  where
    go : (live c past s ≡ true) ⊎ (live c past s ≡ false) → s < admitted c past
    go (inl l) = live_below (has_fork c) (holds c past s) s (admitted c past) fork l
    go (inr d) = absurd (apart (sym (call_of_dead c past s d) ∙ e))

by_door_or_session : (c : Config) (past : List Act) (q : Place) (k : Call) (b : Bool) → has_fork c ≡ true → (Nothing ≡ k → ⊥) → cond b (door_call c past) (call c past q.session) ≡ k → (door_call c past ≡ k) ⊎ (q.session < admitted c past)
by_door_or_session c past q k true fork apart e = inl e
by_door_or_session c past q k false fork apart e = inr (begun_of c past q.session k fork e apart)

called : (c : Config) (past : List Act) (q : Place) (k : Call) → has_fork c ≡ true → (Nothing ≡ k → ⊥) → called_at c past q ≡ k → (door_call c past ≡ k) ⊎ (q.session < admitted c past)
called c past q k fork apart e = by_door_or_session c past q k (is_left q && has_fork c) fork apart e

-- ---- what an act begins to hold

opened : (c : Config) (past : List Act) (q : Place) → has_fork c ≡ true → (called_at c past q ≡ Open q) ⊎ (called_at c past q ≡ Settle q) → q.session < admitted c past
opened c past q fork (inl e) = go (called c past q (Open q) fork (λ x. cc) e)
  where
    go : (door_call c past ≡ Open q) ⊎ (q.session < admitted c past) → q.session < admitted c past
    go (inl d) = absurd (subst (DoorTells c past) d (door_says c past))
    go (inr l) = l
opened c past q fork (inr e) = go (called c past q (Settle q) fork (λ x. cc) e)
  where
    go : (door_call c past ≡ Settle q) ⊎ (q.session < admitted c past) → q.session < admitted c past
    go (inl d) = absurd (subst (DoorTells c past) d (door_says c past))
    go (inr l) = l

listened : (c : Config) (past : List Act) (q : Place) → has_fork c ≡ true → called_at c past q ≡ Listen q → IsKnown c past q
listened c past q fork e = go (called c past q (Listen q) fork (λ x. cc) e)
  where
    go : (door_call c past ≡ Listen q) ⊎ (q.session < admitted c past) → IsKnown c past q
    go (inl d) = inr (inr (subst (DoorTells c past) d (door_says c past)))
    go (inr l) = inl l

accepted : (c : Config) (past : List Act) (q : Place) → has_fork c ≡ true → ((d : Place) × (called_at c past q ≡ Accept d q)) → IsKnown c past q
accepted c past q fork (d, e) = go (called c past q (Accept d q) fork (λ x. cc) e)
  where
    go : (door_call c past ≡ Accept d q) ⊎ (q.session < admitted c past) → IsKnown c past q
    go (inl k) = let t = subst (DoorTells c past) k (door_says c past) in inr (inl t.1)
    go (inr l) = inl l

-- ---- steps

begins : (c : Config) (past : List Act) (p q : Place) (b : Bool) (st old : Stage) → same_place q p ≡ b → IsKnown c past q → (holds_at old ≡ true → IsKnown c past p) → holds_at (cond b st old) ≡ true → IsKnown c past p
begins c past p q true st old e h ih t = subst (IsKnown c past) (same_place_equal q p e) h
begins c past p q false st old e h ih t = ih t

gone : (b : Bool) (st old : Stage) → holds_at st ≡ false → holds_at (cond b st old) ≡ true → holds_at old ≡ true
gone true st old f t = absurd (false≢true (sym f ∙ t))
gone false st old f t = t

-- an admission makes the next place one of a session that has begun
grows : (c : Config) (past : List Act) (q p : Place) (peer : Peer) (b : Bool) → is_admission c q peer ≡ b → IsKnown c past p → IsKnown c (Accepted q peer ∷ past) p
grows c past q p peer true e (inl l) = let x = ap (λ b. one_more b (admitted c past)) e in inl (omega (arith, x, l))
grows c past q p peer true e (inr (inl n)) = let x = ap (λ b. one_more b (admitted c past)) e in let y = ap (λ r. r.session) n in inl (omega (arith, x, y))
grows c past q p peer true e (inr (inr d)) = inr (inr d)
grows c past q p peer false e (inl l) = let x = ap (λ b. one_more b (admitted c past)) e in inl (omega (arith, x, l))
grows c past q p peer false e (inr (inl n)) = inr (inl (rw e n))
grows c past q p peer false e (inr (inr d)) = inr (inr d)

pub known : (c : Config) (n : ℕ) (past : List Act) (p : Place) → Legal c n past → has_fork c ≡ true → held past p ≡ true → IsKnown c past p
known c n [] p legal fork h = absurd (false≢true h)
known c n (Opened q ∷ past) p legal fork h = let ih : held past p ≡ true → IsKnown c past p = known c n past p legal.1 fork in begins c past p q (same_place q p) Usable (stage past p) refl (inl (opened c past q fork legal.0.1)) ih h
known c n (OpenLater q ∷ past) p legal fork h = let ih : held past p ≡ true → IsKnown c past p = known c n past p legal.1 fork in begins c past p q (same_place q p) Unsettled (stage past p) refl (inl (opened c past q fork legal.0.1)) ih h
known c n (OpenFailed q ∷ past) p legal fork h = known c n past p legal.1 fork (gone (same_place q p) Failed (stage past p) refl h)
known c n (Listening q ∷ past) p legal fork h = let ih : held past p ≡ true → IsKnown c past p = known c n past p legal.1 fork in begins c past p q (same_place q p) Waiting (stage past p) refl (listened c past q fork legal.0.1) ih h
known c n (ListenFailed q ∷ past) p legal fork h = known c n past p legal.1 fork (gone (same_place q p) Failed (stage past p) refl h)
known c n (Accepted q peer ∷ past) p legal fork h =
    let ih : held past p ≡ true → IsKnown c past p = known c n past p legal.1 fork in
    grows c past q p peer (is_admission c q peer) refl (begins c past p q (same_place q p) (Met peer) (stage past p) refl (accepted c past q fork legal.0.1) ih h)
known c n (Closed q why ∷ past) p legal fork h = known c n past p legal.1 fork (gone (same_place q p) (Gone why) (stage past p) refl h)
known c n (act ∷ past) p legal fork h = known c n past p legal.1 fork h

-- ---- the next session

none_own : (c : Config) (test : Place → Bool) (s : ℕ) (ps : List Place) → EachOwn c s ps → ((p : Place) → p.session ≡ s → is_program_door c p ≡ false → test p ≡ false) → list_any test ps ≡ false
none_own c test s [] own h = refl
none_own c test s (p ∷ ps) own h = or_from (test p) (list_any test ps) (h p own.0 own.1) (none_own c test s ps own.2 h)

is_door : (c : Config) → has_fork c ≡ true → is_program_door c program_door ≡ true
is_door c fork = fork

-- where no refused peer stands, nothing of the next session is held
pub next_free : (c : Config) (n : ℕ) (past : List Act) → Legal c n past → has_fork c ≡ true → held past (next_place c past) ≡ false → holds c past (admitted c past) ≡ false
next_free c n past legal fork none = none_own c (held past) (admitted c past) (things c (admitted c past)) (each_thing c (admitted c past)) (λ p s own. false_from_ne_true (held past p) (λ h. go p s own h (known c n past p legal fork h)))
  where
    go : (p : Place) → p.session ≡ admitted c past → is_program_door c p ≡ false → held past p ≡ true → IsKnown c past p → ⊥
    go p s own h (inl l) = omega (arith, s, l)
    go p s own h (inr (inl e)) = false≢true (sym none ∙ ap (held past) (sym e) ∙ h)
    go p s own h (inr (inr e)) = false≢true (sym own ∙ ap (is_program_door c) e ∙ is_door c fork)

pub rests_next : (c : Config) (n : ℕ) (past : List Act) → Legal c n past → has_fork c ≡ true → held past (next_place c past) ≡ false → SessionRests c past (admitted c past)
rests_next c n past legal fork none = next_rests c past fork (next_free c n past legal fork none)

-- ---- acts of sessions

pub of_session : (c : Config) (n : ℕ) (act : Act) (past : List Act) (s : ℕ) → Legal c n (act ∷ past) → has_fork c ≡ true → s < admitted c past → ((p : Place) → is_at act p ≡ true → (p.session ≡ s) × (is_program_door c p ≡ false)) → is_common c act ≡ false → Passes c past act
of_session c n act past s legal fork begun own uncommon =
    passes c n act past legal fork
    (false_from_ne_true (is_at act program_door) (λ e. let o = own program_door e in false≢true (sym o.1 ∙ is_door c fork)))
    (λ p same apart. false_from_ne_true (is_at act p) (λ e. let o = (own p e).0 in let x : ⊥ = omega (arith, o, same, begun) in x))
    uncommon

-- ---- wishes

pub tells : (c : Config) (past : List Act) (wish : DoorWish) → Wished c past wish → WishTells past wish
tells c past wishes.Listen w = subst (Tells past) w (door_tells c past)
tells c past (wishes.Accept p) w = ((armed_of c past (next_place c past) w.1).0, rw w.0 (free_of c past (Accept program_door (next_place c past)) w.1 (λ x. cc) (λ x. cc)).0)
tells c past (wishes.Refuse p) w = rw w.0 (held_of_refusal c past (next_place c past) w.1)
tells c past wishes.Serve w = held_of_service c past program_door w
tells c past (wishes.End q why) w = w.is_held
tells c past (wishes.Sleep until) w = tt
tells c past wishes.Done w = w.no_door
