-- What a session waits for that has come already is work which is armed. A turn in which no time passes loses none of
-- it, and forgets what was asked, so it is to be asked.
use Rattle.std.proofs.Common.{◌≡◌, refl, ap, subst, ◌∙◌, ℕ, ◌<◌, ◌≤◌, ◌^◌, ◌⊎◌, inl, inr, Bool, true, false, cond, not, min, ◌&&◌, ◌||◌, ◌==◌, nat_lt, is_none, List, [], ◌∷◌, Option, Some, None, arith}
use Rattle.std.proofs.lemmas.Bool.{false≢true, ltb-true, or_cases}
use Rattle.relay_model.specs.declared.places.Half.TheVariants.{ToRead, ToWrite}
use Rattle.relay_model.specs.declared.places.Place.{Place}
use Rattle.relay_model.specs.declared.places.Way.{Way}
use Rattle.relay_model.specs.declared.places.Way.TheVariants.{LeftToRight, RightToLeft}
use Rattle.relay_model.specs.declared.commands.Config.{Config}
use Rattle.relay_model.specs.declared.acts.Act.{Act}
use Rattle.relay_model.specs.declared.acts.Act.TheVariants.{Turn}
use Rattle.relay_model.specs.Places.{door_of}
use Rattle.relay_model.specs.Readiness.{Listed, names}
use Rattle.relay_model.specs.Choices.{earlier, later}
use Rattle.relay_model.specs.Configs.{places, listens_at, has_own_door, input, output}
use Rattle.relay_model.specs.History.{now, stage, woken}
use Rattle.relay_model.specs.declared.stages.Stage.{Stage}
use Rattle.relay_model.specs.declared.stages.Stage.TheVariants.{Unsettled, Met, Waiting}
use Rattle.relay_model.specs.Arming.{read_arming, is_armed, armed_to_write, armed_to_accept}
use Rattle.relay_model.specs.declared.armings.Arming.{Arming}
use Rattle.relay_model.specs.declared.armings.Arming.TheVariants.{Armed}
use Rattle.relay_model.specs.Sessions.{live}
use Rattle.relay_model.specs.Transfers.{over, backlog}
use Rattle.relay_model.specs.Moments.{closing_moment, idle_moment}
use Rattle.relay_model.specs.Openings.{is_ready, opening_call, listening_call, peer_call, place_call, first_call}
use Rattle.relay_model.specs.declared.calls.Call.{Call}
use Rattle.relay_model.specs.declared.calls.Call.TheVariants.{Nothing, Settle, Accept}
use Rattle.relay_model.specs.Cause.{cause, running}
use Rattle.relay_model.specs.Calls.{call}
use Rattle.relay_model.specs.Rest.{is_going, owes_read, owes_write, accepts, AcceptTried, way_work, session_work, try_moment, input_moment, timer_moment, session_moment}
use Rattle.relay_session.specs.Timers.{session_until}
use Rattle.session_laws.specs.Works.{MustAct}

-- ---- a session without armed work waits for a moment ahead

abbrev pub IsAhead : ℕ → Option ℕ → Type 0
IsAhead at o = (m : ℕ) → o ≡ Some m → at < m

later_ahead : (at : ℕ) (o : Option ℕ) → IsAhead at (later at o)
later_ahead at None m e = let x : ⊥ = cc in absurd x
later_ahead at (Some k) m e = go (nat_lt at k) (nat_lt k (2 ^ 64)) refl e
  where
    go : (a b : Bool) → nat_lt at k ≡ a → cond (a && b) (Some k) None ≡ Some m → at < m
    go true true h f = let x = ltb-true at k h in let y : k ≡ m = cc in omega (arith, x, y)
    go true false h f = let x : ⊥ = cc in absurd x
    go false b h f = let x : ⊥ = cc in absurd x

earlier_ahead : (at : ℕ) (a b : Option ℕ) → IsAhead at a → IsAhead at b → IsAhead at (earlier a b)
earlier_ahead at None b f g m e = g m e
earlier_ahead at (Some x) None f g m e = f m e
earlier_ahead at (Some x) (Some y) f g m e = let p = f x refl in let q = g y refl in let r : min x y ≡ m = cc in omega (arith, p, q, r)

if_ahead : (at : ℕ) (b : Bool) (o : Option ℕ) → IsAhead at o → IsAhead at (cond b o None)
if_ahead at true o f m e = f m e
if_ahead at false o f m e = let x : ⊥ = cc in absurd x

timer_ahead : (c : Config) (past : List Act) (s : ℕ) → IsAhead (now past) (timer_moment c past s)
timer_ahead c past s =
    let at = now past in
    let closing = closing_moment c past s in
    let idle = idle_moment c past s in
    if_ahead at (running c past s) (earlier (later at closing) (later at idle)) (earlier_ahead at (later at closing) (later at idle) (later_ahead at closing) (later_ahead at idle))

moment_ahead : (c : Config) (past : List Act) (s : ℕ) → IsAhead (now past) (session_moment c past s)
moment_ahead c past s =
    let at = now past in
    let one = input_moment c past s LeftToRight in
    let other = input_moment c past s RightToLeft in
    let try = try_moment (call c past s) in
    let inputs = earlier_ahead at (later at one) (later at other) (later_ahead at one) (later_ahead at other) in
    earlier_ahead at (timer_moment c past s) (earlier (earlier (later at one) (later at other)) (later at try)) (timer_ahead c past s)
    (earlier_ahead at (earlier (later at one) (later at other)) (later at try) inputs (later_ahead at try))

work_left : (c : Config) (past : List Act) (s m : ℕ) → session_until c past s ≡ Some m → m ≤ now past → session_work c past s ≡ true
work_left c past s m u come = go (session_work c past s) u
  where
    go : (b : Bool) → cond b (Some (now past)) (session_moment c past s) ≡ Some m → b ≡ true
    go true e = refl
    go false e = let ahead = moment_ahead c past s m e in absurd (omega (arith, ahead, come))

-- ---- a turn in which no time passes leaves reads and writes armed

abbrev pub same_moment : Option ℕ → Listed → List Act → List Act
same_moment wait ready past = Turn wait (now past) ready false ∷ past

still_armed : (named : Bool) (r : Arming) (at : ℕ) → is_armed r at ≡ true → is_armed (cond named Armed r) at ≡ true
still_armed true r at e = refl
still_armed false r at e = e

or_stays : (a b : Bool) → b ≡ true → (a || b) ≡ true
or_stays true b e = refl
or_stays false b e = e

read_stays : (g x y o k : Bool) → (x ≡ true → y ≡ true) → (g && x && o && k) ≡ true → (g && y && o && k) ≡ true
read_stays true true y o k f e = ap (λ t. t && o && k) (f refl) ∙ e
read_stays true false y o k f e = absurd (false≢true e)
read_stays false x y o k f e = absurd (false≢true e)

write_stays : (g x y k : Bool) → (x ≡ true → y ≡ true) → (g && x && k) ≡ true → (g && y && k) ≡ true
write_stays true true y k f e = ap (λ t. t && k) (f refl) ∙ e
write_stays true false y k f e = absurd (false≢true e)
write_stays false x y k f e = absurd (false≢true e)

reads_on : (c : Config) (wait : Option ℕ) (ready : Listed) (past : List Act) (s : ℕ) (w : Way) → owes_read c past s w ≡ true → owes_read c (same_moment wait ready past) s w ≡ true
reads_on c wait ready past s w =
    let p = input c s w in
    let named = names ready.entries p ToRead in
    let r = read_arming past p in
    read_stays (is_going c past s w) (is_armed r (now past)) (is_armed (cond named Armed r) (now past)) (not (over c past p)) (backlog c past s w == 0) (still_armed named r (now past))

writes_on : (c : Config) (wait : Option ℕ) (ready : Listed) (past : List Act) (s : ℕ) (w : Way) → owes_write c past s w ≡ true → owes_write c (same_moment wait ready past) s w ≡ true
writes_on c wait ready past s w =
    let p = output c s w in
    let named = names ready.entries p ToWrite in
    let armed = armed_to_write past p in
    write_stays (is_going c past s w) armed (named || armed) (nat_lt 0 (backlog c past s w)) (or_stays named armed)

-- ---- and an accepting called for

opening_on : (c : Config) (wait : Option ℕ) (ready : Listed) (past : List Act) (p : Place) (st : Stage) → accepts (opening_call c past p st) ≡ true → opening_call c (same_moment wait ready past) p st ≡ opening_call c past p st
opening_on c wait ready past p Unsettled e = go (woken past p) e
  where
    go : (b : Bool) → accepts (cond b (Settle p) Nothing) ≡ true → cond (woken (same_moment wait ready past) p) (Settle p) Nothing ≡ cond b (Settle p) Nothing
    go true h = absurd (false≢true h)
    go false h = absurd (false≢true h)
opening_on c wait ready past p st e = refl

listening_on : (c : Config) (wait : Option ℕ) (ready : Listed) (past : List Act) (d p : Place) (st : Stage) → accepts (listening_call c past d p st) ≡ true → listening_call c (same_moment wait ready past) d p st ≡ listening_call c past d p st
listening_on c wait ready past d p Waiting e = go (names ready.entries d ToRead) (armed_to_accept past d) e
  where
    go : (named armed : Bool) → accepts (cond armed (Accept d p) Nothing) ≡ true → cond (named || armed) (Accept d p) Nothing ≡ cond armed (Accept d p) Nothing
    go true true h = refl
    go false true h = refl
    go named false h = absurd (false≢true h)
listening_on c wait ready past d p st e = refl

peer_on : (c : Config) (wait : Option ℕ) (ready : Listed) (past : List Act) (p : Place) (st : Stage) → accepts (peer_call c past p st) ≡ true → peer_call c (same_moment wait ready past) p st ≡ peer_call c past p st
peer_on c wait ready past p (Met peer) e = refl
peer_on c wait ready past p st e = listening_on c wait ready past (door_of p) p (stage past (door_of p)) e

place_on : (c : Config) (wait : Option ℕ) (ready : Listed) (past : List Act) (p : Place) → accepts (place_call c past p) ≡ true → place_call c (same_moment wait ready past) p ≡ place_call c past p
place_on c wait ready past p e = go (has_own_door c p) (listens_at c p) e
  where
    st : Stage
    st = stage past p

    go : (own listening : Bool) → accepts (cond own (peer_call c past p st) (cond listening Nothing (opening_call c past p st))) ≡ true →
        cond own (peer_call c (same_moment wait ready past) p st) (cond listening Nothing (opening_call c (same_moment wait ready past) p st)) ≡ cond own (peer_call c past p st) (cond listening Nothing (opening_call c past p st))
    go true listening h = peer_on c wait ready past p st h
    go false true h = refl
    go false false h = opening_on c wait ready past p st h

first_on : (c : Config) (wait : Option ℕ) (ready : Listed) (past : List Act) (ps : List Place) → accepts (first_call c past ps) ≡ true → first_call c (same_moment wait ready past) ps ≡ first_call c past ps
first_on c wait ready past [] e = refl
first_on c wait ready past (p ∷ ps) e = go (is_ready c past p) (first_on c wait ready past ps) e
  where
    go : (b : Bool) → (accepts (first_call c past ps) ≡ true → first_call c (same_moment wait ready past) ps ≡ first_call c past ps) → accepts (cond b (first_call c past ps) (place_call c past p)) ≡ true →
        cond b (first_call c (same_moment wait ready past) ps) (place_call c (same_moment wait ready past) p) ≡ cond b (first_call c past ps) (place_call c past p)
    go true rest h = rest h
    go false rest h = place_on c wait ready past p h

call_on : (c : Config) (wait : Option ℕ) (ready : Listed) (past : List Act) (s : ℕ) → accepts (call c past s) ≡ true → call c (same_moment wait ready past) s ≡ call c past s
call_on c wait ready past s e = go (live c past s && is_none (cause c past s)) e
  where
    go : (b : Bool) → accepts (cond b (first_call c past (places c s)) Nothing) ≡ true → cond b (first_call c (same_moment wait ready past) (places c s)) Nothing ≡ cond b (first_call c past (places c s)) Nothing
    go true h = first_on c wait ready past (places c s) h
    go false h = absurd (false≢true h)

-- ---- nothing was asked since the turn

unasked : (c : Config) (wait : Option ℕ) (ready : Listed) (past : List Act) (k : Call) → accepts k ≡ true → AcceptTried c (same_moment wait ready past) k → ⊥
unasked c wait ready past (Accept d p) e tried = false≢true tried
unasked c wait ready past k e tried = false≢true e

way_acts : (c : Config) (wait : Option ℕ) (ready : Listed) (past : List Act) (s : ℕ) (w : Way) → way_work c past s w ≡ true → MustAct c (same_moment wait ready past) s
way_acts c wait ready past s w e rests = go (or_cases (owes_read c past s w) (owes_write c past s w) e)
  where
    go : (owes_read c past s w ≡ true) ⊎ (owes_write c past s w ≡ true) → ⊥
    go (inl h) = false≢true (rests.read_tried w (reads_on c wait ready past s w h))
    go (inr h) = false≢true (rests.write_tried w (writes_on c wait ready past s w h))

accept_acts : (c : Config) (wait : Option ℕ) (ready : Listed) (past : List Act) (s : ℕ) → accepts (call c past s) ≡ true → MustAct c (same_moment wait ready past) s
accept_acts c wait ready past s e rests = unasked c wait ready past (call c past s) e (subst (AcceptTried c (same_moment wait ready past)) (call_on c wait ready past s e) rests.accept_tried)

work_acts : (c : Config) (wait : Option ℕ) (ready : Listed) (past : List Act) (s : ℕ) → session_work c past s ≡ true → MustAct c (same_moment wait ready past) s
work_acts c wait ready past s e rests = go (or_cases (way_work c past s LeftToRight || way_work c past s RightToLeft) (accepts (call c past s)) e)
  where
    ways : (way_work c past s LeftToRight ≡ true) ⊎ (way_work c past s RightToLeft ≡ true) → ⊥
    ways (inl h) = way_acts c wait ready past s LeftToRight h rests
    ways (inr h) = way_acts c wait ready past s RightToLeft h rests

    go : ((way_work c past s LeftToRight || way_work c past s RightToLeft) ≡ true) ⊎ (accepts (call c past s) ≡ true) → ⊥
    go (inl h) = ways (or_cases (way_work c past s LeftToRight) (way_work c past s RightToLeft) h)
    go (inr h) = accept_acts c wait ready past s h rests

pub waited :
    (c : Config) (wait : Option ℕ) (ready : Listed) (past : List Act) (s m : ℕ) → session_until c past s ≡ Some m → m ≤ now past → MustAct c (Turn wait (now past) ready false ∷ past) s
waited c wait ready past s m u come = work_acts c wait ready past s (work_left c past s m u come)
