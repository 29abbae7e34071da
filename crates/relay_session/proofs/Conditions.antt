-- What a wish says in the words of a world, from what it says of the history.
use Rattle.std.proofs.Common.{◌≡◌, refl, sym, ap, subst, ◌∙◌, ℕ, ◌<◌, ◌≤◌, Bool, true, false, ◌&&◌, List, [], ◌∷◌, length, None, is_some, is_none, cond, arith}
use Rattle.std.specs.List.{list_all}
use Rattle.std.proofs.lemmas.Bool.{false≢true}
use Rattle.relay_model.specs.declared.places.Place.{Place}
use Rattle.relay_model.specs.declared.places.Way.{Way}
use Rattle.relay_model.specs.declared.places.Way.TheVariants.{LeftToRight, RightToLeft}
use Rattle.relay_model.specs.declared.commands.Config.{Config}
use Rattle.relay_model.specs.declared.acts.Act.{Act}
use Rattle.relay_model.specs.Places.{same_place}
use Rattle.relay_model.specs.Configs.{places, input, output, formed, way_from, way_to, is_place_of}
use Rattle.relay_model.specs.Transfers.{backlog}
use Rattle.relay_model.specs.Sessions.{live}
use Rattle.relay_model.specs.Openings.{first_call}
use Rattle.relay_model.specs.declared.calls.Call.TheVariants.{Nothing}
use Rattle.relay_model.specs.Cause.{cause}
use Rattle.relay_model.specs.Calls.{call}
use Rattle.relay_model.specs.Rest.{is_going}
use Rattle.relay_laws.proofs.PlaceLemmas.{same_place_equal}
use Rattle.relay_laws.proofs.Holdings.{input_passes, output_passes, moves_formed}
use Rattle.session_direction.proofs.Wanted.{waits_is}
use Rattle.relay_session.specs.declared.lanes.SessionLane.{SessionLane}
use Rattle.relay_session.specs.declared.lanes.SessionLane.TheVariants.{Unformed, Formed}
use Rattle.relay_session.specs.declared.lanes.Lanes.{Lanes}
use Rattle.relay_session.specs.declared.states.State.{State}
use Rattle.relay_session.specs.declared.wishes.Wish.{Wish}
use Rattle.relay_session.specs.declared.wishes.Wish.TheVariants as wishes
use Rattle.relay_session.specs.Lanes.{IsLane, AreLanes, waiting_in, waiting_at, lane_at}
use Rattle.relay_session.specs.States.{Fields, Wished, Allowed, Stage}
use Rattle.relay_session.specs.Steps.{waiting_for}
use Rattle.relay_session.specs.Conditions.{is_course, is_writing, IsAtOwn}
use Rattle.relay_session.proofs.Own.{NamesOwn, names_own, AllStand, all_stand}

-- ---- the course

in_course : (c : Config) (past : List Act) (s : ℕ) (st : State) (wish : Wish) → Stage c past s st wish → is_course wish ≡ true → st.ending ≡ None
in_course c past s st (wishes.Close q why) a e = absurd (false≢true e)
in_course c past s st (wishes.Reap p) a e = absurd (false≢true e)
in_course c past s st (wishes.Done why) a e = absurd (false≢true e)
in_course c past s st (wishes.Open p) a e = a
in_course c past s st (wishes.Settle p) a e = a
in_course c past s st (wishes.Listen d) a e = a
in_course c past s st (wishes.Accept d p) a e = a
in_course c past s st (wishes.Read p at_most) a e = a.0
in_course c past s st (wishes.Write p) a e = a.0
in_course c past s st (wishes.Send p) a e = a.0
in_course c past s st (wishes.Shut p how) a e = a
in_course c past s st (wishes.Sleep until) a e = a

-- a session that wishes for anything but its end wasn't ended
pub goes_while : (c : Config) (n : ℕ) (past : List Act) (s : ℕ) (st : State) (wish : Wish) → Allowed c n past s st wish → is_course wish ≡ true → is_some st.ending ≡ false
goes_while c n past s st wish allowed e = ap is_some (in_course c past s st wish allowed.1 e)

-- ---- own places

both : (a b : Bool) → a ≡ true → b ≡ true → (a && b) ≡ true
both true b e f = f
both false b e f = absurd (false≢true e)

each_among : (c : Config) (s : ℕ) (ps : List Place) → AllStand c s ps → list_all (is_place_of c s) ps ≡ true
each_among c s [] h = refl
each_among c s (p ∷ ps) h = let here = h.0.place.among in let there = each_among c s ps h.1 in both (is_place_of c s p) (list_all (is_place_of c s) ps) here there

input_own : (c : Config) (past : List Act) (p : Place) → same_place p (input c p.session (way_from p.side)) ≡ true → is_going c past p.session (way_from p.side) ≡ true → is_place_of c p.session p ≡ true
input_own c past p same moving =
    let w = way_from p.side in
    let s = p.session in
    let h = input_passes c (is_place_of c s) s w (moves_formed c past s w moving) (each_among c s (places c s) (all_stand c s)) in
    subst (λ q. is_place_of c s q ≡ true) (sym (same_place_equal p (input c s w) same)) h

output_own : (c : Config) (past : List Act) (p : Place) → same_place p (output c p.session (way_to p.side)) ≡ true → is_going c past p.session (way_to p.side) ≡ true → is_place_of c p.session p ≡ true
output_own c past p same moving =
    let w = way_to p.side in
    let s = p.session in
    let h = output_passes c (is_place_of c s) s w (moves_formed c past s w moving) (each_among c s (places c s) (all_stand c s)) in
    subst (λ q. is_place_of c s q ≡ true) (sym (same_place_equal p (output c s w) same)) h

-- bytes are wished for at places of the session
-- whatever a session calls for names things of its own
pub call_names : (c : Config) (past : List Act) (s : ℕ) → NamesOwn c s (call c past s)
call_names c past s = go (live c past s && is_none (cause c past s))
  where
    go : (b : Bool) → NamesOwn c s (cond b (first_call c past (places c s)) Nothing)
    go true = names_own c past s
    go false = tt

pub at_own : (c : Config) (n : ℕ) (past : List Act) (s : ℕ) (wish : Wish) → Wished c n past s wish → IsAtOwn c s wish
at_own c n past s (wishes.Open p) h = (subst (NamesOwn c s) h (call_names c past s)).0.of
at_own c n past s (wishes.Listen d) h = (subst (NamesOwn c s) h (call_names c past s)).of
at_own c n past s (wishes.Read p at_most) h = subst (λ x. is_place_of c x p ≡ true) h.own (input_own c past p h.may.asks.is_input h.may.asks.moving)
at_own c n past s (wishes.Write p) h = subst (λ x. is_place_of c x p ≡ true) h.own (output_own c past p h.may.offers.is_output h.may.offers.moving)
at_own c n past s (wishes.Send p) h = subst (λ x. is_place_of c x p ≡ true) h.own (output_own c past p h.may.offers.is_output h.may.offers.moving)
at_own c n past s wish h = tt

-- ---- what is offered

lane_waits : (c : Config) (past : List Act) (s : ℕ) (w : Way) (lane : SessionLane) → IsLane c past s w lane → formed c w ≡ true → backlog c past s w ≡ length (waiting_in lane)
lane_waits c past s w Unformed is_lane e = absurd (false≢true (sym is_lane ∙ e))
lane_waits c past s w (Formed d) is_lane e = waits_is c past s w d is_lane

pub lane_of : (c : Config) (past : List Act) (s : ℕ) (w : Way) (lanes : Lanes) → AreLanes c past s lanes → IsLane c past s w (lane_at lanes w)
lane_of c past s LeftToRight lanes are = are.to_right_is
lane_of c past s RightToLeft lanes are = are.to_left_is

pub waits : (c : Config) (past : List Act) (s : ℕ) (w : Way) (lanes : Lanes) → AreLanes c past s lanes → formed c w ≡ true → backlog c past s w ≡ length (waiting_in (lane_at lanes w))
waits c past s w lanes are e = lane_waits c past s w (lane_at lanes w) (lane_of c past s w lanes are) e

some_of : (xs : List ℕ) (n : ℕ) (waiting : List ℕ) → n ≡ length waiting → 1 ≤ n → (xs ≡ [] → waiting ≡ []) → 0 < length xs
some_of [] n waiting e some none = let z = ap length (none refl) in absurd (omega (arith, e, some, z))
some_of (x ∷ xs) n waiting e some none = omega arith

-- bytes wait where a write is wished for
pub offers_some : (c : Config) (n : ℕ) (past : List Act) (s : ℕ) (st : State) (wish : Wish) (xs : List ℕ) → Fields c n past s st → Wished c n past s wish → is_writing wish ≡ true → (xs ≡ [] → waiting_for st wish ≡ []) → 0 < length xs
offers_some c n past s st (wishes.Write p) xs f h e none =
    some_of xs (backlog c past p.session (way_to p.side)) (waiting_at st.lanes p)
    (waits c past p.session (way_to p.side) st.lanes (subst (λ x. AreLanes c past x st.lanes) (sym h.own) f.ground.lanes_are) (moves_formed c past p.session (way_to p.side) h.may.offers.moving))
    h.may.waiting none
offers_some c n past s st (wishes.Send p) xs f h e none =
    some_of xs (backlog c past p.session (way_to p.side)) (waiting_at st.lanes p)
    (waits c past p.session (way_to p.side) st.lanes (subst (λ x. AreLanes c past x st.lanes) (sym h.own) f.ground.lanes_are) (moves_formed c past p.session (way_to p.side) h.may.offers.moving))
    h.may.waiting none
offers_some c n past s st (wishes.Open p) xs f h e none = absurd (false≢true e)
offers_some c n past s st (wishes.Settle p) xs f h e none = absurd (false≢true e)
offers_some c n past s st (wishes.Listen d) xs f h e none = absurd (false≢true e)
offers_some c n past s st (wishes.Accept d p) xs f h e none = absurd (false≢true e)
offers_some c n past s st (wishes.Read p at_most) xs f h e none = absurd (false≢true e)
offers_some c n past s st (wishes.Shut p how) xs f h e none = absurd (false≢true e)
offers_some c n past s st (wishes.Close q why) xs f h e none = absurd (false≢true e)
offers_some c n past s st (wishes.Reap p) xs f h e none = absurd (false≢true e)
offers_some c n past s st (wishes.Sleep until) xs f h e none = absurd (false≢true e)
offers_some c n past s st (wishes.Done why) xs f h e none = absurd (false≢true e)
