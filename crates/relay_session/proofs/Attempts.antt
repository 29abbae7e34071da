-- How many tries failed where none is left: a try comes only where tries are left.
use Rattle.std.proofs.Common.{◌≡◌, refl, sym, ap, subst, ◌∙◌, ℕ, suc, ◌<◌, ◌-◌, ◌^◌, min, Bool, true, false, not, cond, ◌&&◌, ◌||◌, ◌==◌, nat_lt, nat_le, is_none, List, [], ◌∷◌, length, Option, Some, None, arith, inl, inr, if◌then◌else◌}
use Rattle.std.proofs.lemmas.Bool.{false≢true, ltb-true, ltb-false}
use Rattle.relay_model.specs.declared.places.Place.{Place}
use Rattle.relay_model.specs.declared.commands.Config.{Config}
use Rattle.relay_model.specs.declared.acts.Act.{Act}
use Rattle.relay_model.specs.declared.acts.Act.TheVariants.{Opened, OpenLater, OpenFailed, Listening, ListenFailed, Accepted, Closed}
use Rattle.relay_model.specs.Places.{same_place, door_of}
use Rattle.relay_model.specs.Choices.{only_if, or_else, noted}
use Rattle.relay_model.specs.Configs.{places, options_of, listens_at, has_own_door, has_fork, is_left, program_door}
use Rattle.relay_model.specs.History.{now, stage, held, woken, failures}
use Rattle.relay_model.specs.declared.stages.Stage.{Stage}
use Rattle.relay_model.specs.declared.stages.Stage.TheVariants.{Untried, Usable, Unsettled, Failed, Met, Waiting, Gone}
use Rattle.relay_model.specs.Arming.{armed_to_accept}
use Rattle.relay_model.specs.Sessions.{permits, live, next_place}
use Rattle.relay_model.specs.Tries.{is_out_of_tries, next_due}
use Rattle.relay_model.specs.Openings.{out_of_tries, when_due, try_again, is_ready, opening_call, listening_call, peer_call, place_call, first_call}
use Rattle.relay_model.specs.declared.calls.Call.{Call}
use Rattle.relay_model.specs.declared.calls.Call.TheVariants.{Nothing, TryAt, Open, Settle, Listen, Accept, Refuse, Serve}
use Rattle.relay_model.specs.Cause.{cause}
use Rattle.relay_model.specs.Calls.{call, door_cut, enough, full, program_door_call, door_call, called_at}
use Rattle.relay_model.specs.May.{MayOpen, Legal}
use Rattle.relay_model.specs.Outcome.{failed_opening, failed_listening}
use Rattle.relay_model.specs.declared.outcomes.RunOutcome.TheVariants as outcomes
use Rattle.relay_laws.proofs.PlaceLemmas.{same_place_equal}
use Rattle.retry_plan.specs.Plans.{attempts_of}
use Rattle.place_openings.specs.Attempts.{first_unopened, first_unlistened, CanCount, FirstCanCount}
use Rattle.place_openings.proofs.Tries.{some_left}
use Rattle.relay_session.specs.Told.{told_opening, told_listening}

-- ---- what is called for where tries are left

-- an opening or a listening may come next at a thing of this stage, as the first try, or settle what was tried
abbrev awaits : Stage → Bool
awaits Untried = true
awaits Unsettled = true
awaits other = false

-- where that is so, tries are left
record TriesAreLeft (c : Config) (past : List Act) : Type 0 where
  left : (p : Place) → awaits (stage past p) ≡ true → out_of_tries c past p ≡ false

-- tries are left at the thing that a call opens, settles or listens at
abbrev HasTries : Config → List Act → Call → Type 0
HasTries c past (Open p) = out_of_tries c past p ≡ false
HasTries c past (Settle p) = out_of_tries c past p ≡ false
HasTries c past (Listen d) = out_of_tries c past d ≡ false
HasTries c past other = Unit {0}

choice : (c : Config) (past : List Act) (b : Bool) (one other : Call) → (b ≡ true → HasTries c past one) → (b ≡ false → HasTries c past other) → HasTries c past (cond b one other)
choice c past true one other t f = t refl
choice c past false one other t f = f refl

due_has : (c : Config) (past : List Act) (o : Option ℕ) (wanted : Call) → HasTries c past wanted → HasTries c past (when_due (now past) o wanted)
due_has c past None wanted t = tt
due_has c past (Some m) wanted t = choice c past (nat_le m (now past)) wanted (TryAt m) (λ _. t) (λ _. tt)

again_has : (c : Config) (past : List Act) (p : Place) (wanted : Call) → (out_of_tries c past p ≡ false → HasTries c past wanted) → HasTries c past (try_again c past p wanted)
again_has c past p wanted t =
    choice c past (out_of_tries c past p) Nothing (when_due (now past) (next_due (options_of c p).tries.interval (failures past p)) wanted)
    (λ _. tt)
    (λ e. due_has c past (next_due (options_of c p).tries.interval (failures past p)) wanted (t e))

opening_has : (c : Config) (past : List Act) → TriesAreLeft c past → (p : Place) (st : Stage) → stage past p ≡ st → HasTries c past (opening_call c past p st)
opening_has c past l p Untried e = l.left p (ap awaits e)
opening_has c past l p Unsettled e = choice c past (woken past p) (Settle p) Nothing (λ _. l.left p (ap awaits e)) (λ _. tt)
opening_has c past l p Failed e = again_has c past p (Open p) (λ h. h)
opening_has c past l p st e = tt

listening_has : (c : Config) (past : List Act) → TriesAreLeft c past → (d p : Place) (st : Stage) → stage past d ≡ st → HasTries c past (listening_call c past d p st)
listening_has c past l d p Untried e = l.left d (ap awaits e)
listening_has c past l d p Failed e = again_has c past d (Listen d) (λ h. h)
listening_has c past l d p Waiting e = choice c past (armed_to_accept past d) (Accept d p) Nothing (λ _. tt) (λ _. tt)
listening_has c past l d p st e = tt

peer_has : (c : Config) (past : List Act) → TriesAreLeft c past → (p : Place) (st : Stage) → HasTries c past (peer_call c past p st)
peer_has c past l p (Met peer) =
    choice c past (permits c p peer) (cond (held past (door_of p)) (Serve (door_of p)) Nothing) (Refuse p)
    (λ _. choice c past (held past (door_of p)) (Serve (door_of p)) Nothing (λ _. tt) (λ _. tt))
    (λ _. tt)
peer_has c past l p st = listening_has c past l (door_of p) p (stage past (door_of p)) refl

place_has : (c : Config) (past : List Act) → TriesAreLeft c past → (p : Place) → HasTries c past (place_call c past p)
place_has c past l p =
    choice c past (has_own_door c p) (peer_call c past p (stage past p)) (cond (listens_at c p) Nothing (opening_call c past p (stage past p)))
    (λ _. peer_has c past l p (stage past p))
    (λ _. choice c past (listens_at c p) Nothing (opening_call c past p (stage past p)) (λ _. tt) (λ _. opening_has c past l p (stage past p) refl))

first_has : (c : Config) (past : List Act) → TriesAreLeft c past → (ps : List Place) → HasTries c past (first_call c past ps)
first_has c past l [] = tt
first_has c past l (p ∷ ps) = let h = first_has c past l ps in choice c past (is_ready c past p) (first_call c past ps) (place_call c past p) (λ _. h) (λ _. place_has c past l p)

call_has : (c : Config) (past : List Act) → TriesAreLeft c past → (s : ℕ) → HasTries c past (call c past s)
call_has c past l s = choice c past (live c past s && is_none (cause c past s)) (first_call c past (places c s)) Nothing (λ _. first_has c past l (places c s)) (λ _. tt)

program_door_has : (c : Config) (past : List Act) → TriesAreLeft c past → (st : Stage) → stage past program_door ≡ st → HasTries c past (program_door_call c past st)
program_door_has c past l Waiting e =
    choice c past (enough c past) (Serve program_door) (cond (full c past) Nothing (listening_call c past program_door (next_place c past) Waiting))
    (λ _. tt)
    (λ _. choice c past (full c past) Nothing (listening_call c past program_door (next_place c past) Waiting) (λ _. tt) (λ _. listening_has c past l program_door (next_place c past) Waiting e))
program_door_has c past l st e = listening_has c past l program_door (next_place c past) st e

door_has : (c : Config) (past : List Act) → TriesAreLeft c past → HasTries c past (door_call c past)
door_has c past l =
    choice c past (not (has_fork c) || door_cut past) Nothing (cond (held past (next_place c past)) (Refuse (next_place c past)) (program_door_call c past (stage past program_door)))
    (λ _. tt)
    (λ _. choice c past (held past (next_place c past)) (Refuse (next_place c past)) (program_door_call c past (stage past program_door)) (λ _. tt) (λ _. program_door_has c past l (stage past program_door) refl))

called_has : (c : Config) (past : List Act) → TriesAreLeft c past → (p : Place) → HasTries c past (called_at c past p)
called_has c past l p = choice c past (is_left p && has_fork c) (door_call c past) (call c past p.session) (λ _. door_has c past l) (λ _. call_has c past l p.session)

open_has : (c : Config) (past : List Act) → TriesAreLeft c past → (p : Place) → MayOpen c past p → out_of_tries c past p ≡ false
open_has c past l p (inl e) = subst (HasTries c past) e (called_has c past l p)
open_has c past l p (inr e) = subst (HasTries c past) e (called_has c past l p)

listen_has : (c : Config) (past : List Act) → TriesAreLeft c past → (d : Place) → called_at c past d ≡ Listen d → out_of_tries c past d ≡ false
listen_has c past l d e = subst (HasTries c past) e (called_has c past l d)

-- ---- how many failed

-- at a thing of this stage, with these failures
record AreCounted (retry : ℕ) (forever : Bool) (st : Stage) (moments : List ℕ) : Type 0 where
  left : awaits st ≡ true → is_out_of_tries retry forever moments ≡ false
  counted : is_out_of_tries retry forever moments ≡ true → length moments ≡ suc retry

abbrev Counted : Config → List Act → Place → Type 0
Counted c past p = AreCounted (options_of c p).tries.retry (options_of c p).tries.forever (stage past p) (failures past p)

one_more : (ends : Bool) (retry k : ℕ) → (ends && nat_lt retry k) ≡ false → (ends && nat_lt retry (suc k)) ≡ true → suc k ≡ suc retry
one_more false retry k e f = absurd (false≢true f)
one_more true retry k e f = let a = ltb-false retry k e in let b = ltb-true retry (suc k) f in omega (arith, a, b)

moved_on : (retry : ℕ) (forever : Bool) (b : Bool) (st old : Stage) (moments : List ℕ) → awaits st ≡ false → AreCounted retry forever old moments → AreCounted retry forever (if b then st else old) moments
moved_on retry forever true st old moments e k = record { left = λ h. absurd (false≢true (sym e ∙ h)); counted = k.counted }
moved_on retry forever false st old moments e k = k

later_on : (retry : ℕ) (forever : Bool) (b : Bool) (old : Stage) (moments : List ℕ) → (b ≡ true → is_out_of_tries retry forever moments ≡ false) → AreCounted retry forever old moments → AreCounted retry forever (if b then Unsettled else old) moments
later_on retry forever true old moments e k = record { left = λ _. e refl; counted = k.counted }
later_on retry forever false old moments e k = k

failed_on : (retry : ℕ) (forever : Bool) (b : Bool) (old : Stage) (at : ℕ) (moments : List ℕ) → (b ≡ true → is_out_of_tries retry forever moments ≡ false) → AreCounted retry forever old moments → AreCounted retry forever (if b then Failed else old) (noted b at moments)
failed_on retry forever true old at moments e k =
    record { left = λ h. absurd (false≢true h); counted = one_more (not forever && not (retry == 2 ^ 64 - 1)) retry (length moments) (e refl) }
failed_on retry forever false old at moments e k = k

here : (c : Config) (past : List Act) (q p : Place) → out_of_tries c past q ≡ false → same_place q p ≡ true → out_of_tries c past p ≡ false
here c past q p none e = subst (λ x. out_of_tries c past x ≡ false) (same_place_equal q p e) none

all_left : (c : Config) (past : List Act) → ((p : Place) → Counted c past p) → TriesAreLeft c past
all_left c past k = record { left = λ p. (k p).left }

counted_at : (c : Config) (n : ℕ) (past : List Act) → Legal c n past → (p : Place) → Counted c past p
counted_at c n [] legal p =
    let none = some_left (options_of c p).tries.retry (options_of c p).tries.forever in
    record { left = λ _. none; counted = λ h. absurd (false≢true (sym none ∙ h)) }
counted_at c n (Opened q ∷ past) legal p =
    moved_on (options_of c p).tries.retry (options_of c p).tries.forever (same_place q p) Usable (stage past p) (failures past p) refl (counted_at c n past legal.1 p)
counted_at c n (Listening q ∷ past) legal p =
    moved_on (options_of c p).tries.retry (options_of c p).tries.forever (same_place q p) Waiting (stage past p) (failures past p) refl (counted_at c n past legal.1 p)
counted_at c n (Accepted q peer ∷ past) legal p =
    moved_on (options_of c p).tries.retry (options_of c p).tries.forever (same_place q p) (Met peer) (stage past p) (failures past p) refl (counted_at c n past legal.1 p)
counted_at c n (Closed q why ∷ past) legal p =
    moved_on (options_of c p).tries.retry (options_of c p).tries.forever (same_place q p) (Gone why) (stage past p) (failures past p) refl (counted_at c n past legal.1 p)
counted_at c n (OpenLater q ∷ past) legal p =
    let k = counted_at c n past legal.1 in
    later_on (options_of c p).tries.retry (options_of c p).tries.forever (same_place q p) (stage past p) (failures past p) (here c past q p (open_has c past (all_left c past k) q legal.0.1)) (k p)
counted_at c n (OpenFailed q ∷ past) legal p =
    let k = counted_at c n past legal.1 in
    failed_on (options_of c p).tries.retry (options_of c p).tries.forever (same_place q p) (stage past p) (now past) (failures past p) (here c past q p (open_has c past (all_left c past k) q legal.0.1)) (k p)
counted_at c n (ListenFailed q ∷ past) legal p =
    let k = counted_at c n past legal.1 in
    failed_on (options_of c p).tries.retry (options_of c p).tries.forever (same_place q p) (stage past p) (now past) (failures past p) (here c past q p (listen_has c past (all_left c past k) q legal.0.1)) (k p)
counted_at c n (act ∷ past) legal p = counted_at c n past legal.1 p

-- where no try is left, one more failed than may be followed by a try
pub counted : (c : Config) (n : ℕ) (past : List Act) (p : Place) → Legal c n past → out_of_tries c past p ≡ true → length (failures past p) ≡ suc (options_of c p).tries.retry
counted c n past p legal out = (counted_at c n past legal p).counted out

-- ---- what is told

below : (top k retry : ℕ) → k ≡ suc retry → retry < top → min k top ≡ k
below top k retry e lt = omega (arith, e, lt)

exact : (c : Config) (n : ℕ) (past : List Act) (p : Place) → Legal c n past → CanCount c p → out_of_tries c past p ≡ true → attempts_of (failures past p) ≡ length (failures past p)
exact c n past p legal can out = below (2 ^ 64 - 1) (length (failures past p)) (options_of c p).tries.retry (counted c n past p legal out) can

-- an opening that is given up is told of as the history says
pub opening_exact : (c : Config) (n : ℕ) (past : List Act) (ps : List Place) → Legal c n past → FirstCanCount c past ps → told_opening (first_unopened c past ps) ≡ failed_opening c past ps
opening_exact c n past [] legal can = refl
opening_exact c n past (p ∷ ps) legal can = go (out_of_tries c past p) refl (opening_exact c n past ps legal)
  where
    go : (b : Bool) → out_of_tries c past p ≡ b → (FirstCanCount c past ps → told_opening (first_unopened c past ps) ≡ failed_opening c past ps) →
        told_opening (or_else (only_if b (record { side = p.side; attempts = attempts_of (failures past p) })) (first_unopened c past ps)) ≡ or_else (only_if b (outcomes.OpenFailed p.side (length (failures past p)))) (failed_opening c past ps)
    go true e ih = ap (λ k. Some (outcomes.OpenFailed p.side k)) (exact c n past p legal (can.0 e) e)
    go false e ih = ih (can.1 e)

-- and so is a listening
pub listening_exact : (c : Config) (n : ℕ) (past : List Act) (ds : List Place) → Legal c n past → FirstCanCount c past ds → told_listening (first_unlistened c past ds) ≡ failed_listening c past ds
listening_exact c n past [] legal can = refl
listening_exact c n past (d ∷ ds) legal can = go (out_of_tries c past d) refl (listening_exact c n past ds legal)
  where
    go : (b : Bool) → out_of_tries c past d ≡ b → (FirstCanCount c past ds → told_listening (first_unlistened c past ds) ≡ failed_listening c past ds) →
        told_listening (or_else (only_if b (attempts_of (failures past d))) (first_unlistened c past ds)) ≡ or_else (only_if b (outcomes.ListenFailed (length (failures past d)))) (failed_listening c past ds)
    go true e ih = ap (λ k. Some (outcomes.ListenFailed k)) (exact c n past d legal (can.0 e) e)
    go false e ih = ih (can.1 e)
