-- What the tests that compute let through may come: a journal whose acts all pass is legal.
use Rattle.std.proofs.Common.{◌≡◌, refl, sym, ap, subst, ℕ, zero, suc, ◌<◌, ◌≤◌, Bool, true, false, not, ◌&&◌, ◌||◌, ◌==◌, nat_le, nat_lt, is_some, is_none, List, [], ◌∷◌, ◌++◌, length, Option, Some, None, arith, inl, inr, ◌⊎◌}
use Rattle.std.proofs.lemmas.Bool.{false≢true, and_parts, ltb-true, leb-true, eqb-true, not-true, cases_eq, cases_lt}
use Rattle.relay_model.specs.declared.places.Way.{Way}
use Rattle.relay_model.specs.declared.places.Way.TheVariants.{LeftToRight, RightToLeft}
use Rattle.relay_model.specs.declared.places.Place.{Place}
use Rattle.relay_model.specs.declared.commands.Config.{Config}
use Rattle.relay_model.specs.declared.acts.Why.{Why}
use Rattle.relay_model.specs.declared.acts.Why.TheVariants as whys
use Rattle.relay_model.specs.declared.acts.Shut.{Shut as Shutting}
use Rattle.relay_model.specs.declared.acts.Shut.TheVariants as shuts
use Rattle.relay_model.specs.declared.acts.Act.{Act}
use Rattle.relay_model.specs.declared.acts.Act.TheVariants.{Turn, Opened, OpenLater, OpenFailed, Listening, ListenFailed, Accepted, NoPeer, AcceptFailed, Read, ReadEmpty, ReadEnd, ReadNotYet, ReadFault, Wrote, WriteNotYet, WriteFault, Shut, ShutFault, Closed, Reaped, Note, NoteFault}
use Rattle.relay_model.specs.Places.{same_place}
use Rattle.relay_model.specs.Choices.{each_below}
use Rattle.relay_model.specs.Configs.{input, output, way_from, way_to, is_program_door, program_door, has_fork, medium_of, is_program, keeps_borders, how}
use Rattle.relay_model.specs.History.{turns, held, got, put, sent, was_closed, was_reaped, same_why}
use Rattle.relay_model.specs.Arming.{armed_to_read, armed_to_write, asked_to_read, asked_to_write}
use Rattle.relay_model.specs.Sessions.{holds, numbers}
use Rattle.relay_model.specs.Transfers.{due, due_pieces, over, backlog, greatest_read, is_spent}
use Rattle.relay_model.specs.Moments.{passed}
use Rattle.relay_model.specs.Openings.{ready}
use Rattle.relay_model.specs.declared.calls.Call.{Call}
use Rattle.relay_model.specs.declared.calls.Call.TheVariants.{Nothing, TryAt, Open, Settle, Listen, Accept, Refuse, Serve}
use Rattle.relay_model.specs.Cause.{cause, closed_why}
use Rattle.relay_model.specs.Calls.{called_at, call, door_call, door_cut}
use Rattle.relay_model.specs.Outcome.{outcome}
use Rattle.relay_model.specs.Rest.{owed, is_going, owes_read, owes_write, must_pass, presses, AcceptTried, SessionRests, DoorRests, Rest, until_of}
use Rattle.relay_model.specs.May.{MayAsk, MayRead, MayOffer, MayWrite, MayTryWrite, MayShut, MayOpen, MayAccept, MayClose, MayTurn, MayReap, DoorEnds, for_memory, for_stop, for_accept, Licensed, by_cause, by_refusal, by_service, by_door, by_memory, by_turns, BeginsWith, KeepsBorders, May, Legal}
use Rattle.relay_model.specs.Audit.{implies, accept_tried, way_rests, session_rests, door_rests, rests, same_number, same_list, same_text, begins, begins_pieces, same_shut, opens, listens_to, accepts_for, accepts_at, closes, may_ask, may_take, may_offer, may_put, may_shut, door_ends, is_cause, may_close, timely, may_come, first_of_two, first_illegal}
use Rattle.relay_laws.proofs.PlaceLemmas.{same_place_equal}
use Rattle.relay_laws.proofs.Begun.{unbegun_holds, unbegun_live}
use Rattle.relay_laws.proofs.RestLemmas.{silent}

-- ---- small tests

refuted : {P : Type 0} → false ≡ true → P
refuted e = absurd (false≢true e)

none_is : {T : Type 0} (o : Option T) → is_none o ≡ true → o ≡ None
none_is None e = refl
none_is (Some x) e = refuted e

implied : (a b : Bool) → implies a b ≡ true → a ≡ true → b ≡ true
implied true b e t = e
implied false b e t = refuted t

each_passes : (test : ℕ → Bool) (k : ℕ) → each_below test k ≡ true → (s : ℕ) → s < k → test s ≡ true
each_passes test zero e s h = let x : ⊥ = omega (arith, h) in absurd x
each_passes test (suc k) e s h = go (cases_eq s k) (each_passes test k (and_parts (test k) (each_below test k) e).1 s)
  where
    go : (s ≡ k) ⊎ (s ≡ k → ⊥) → (s < k → test s ≡ true) → test s ≡ true
    go (inl same) ih = subst (λ m. test m ≡ true) (sym same) (and_parts (test k) (each_below test k) e).0
    go (inr other) ih = ih (below (cases_lt s k))
      where
        below : (s < k) ⊎ (k ≤ s) → s < k
        below (inl b) = b
        below (inr b) = let x : ⊥ = other (omega (arith, b, h)) in absurd x

same_number_equal : (one other : Option ℕ) → same_number one other ≡ true → one ≡ other
same_number_equal None None e = refl
same_number_equal None (Some n) e = refuted e
same_number_equal (Some m) None e = refuted e
same_number_equal (Some m) (Some n) e = ap Some (eqb-true m n e)

same_list_equal : (xs ys : List ℕ) → same_list xs ys ≡ true → xs ≡ ys
same_list_equal [] [] e = refl
same_list_equal [] (y ∷ ys) e = refuted e
same_list_equal (x ∷ xs) [] e = refuted e
same_list_equal (x ∷ xs) (y ∷ ys) e =
    let a = and_parts (x == y) (same_list xs ys) e in
    let h = eqb-true x y a.0 in
    let t = same_list_equal xs ys a.1 in
    cc (h, t)

same_text_equal : (o : Option (List ℕ)) (text : List ℕ) → same_text o text ≡ true → o ≡ Some text
same_text_equal None text e = refuted e
same_text_equal (Some one) text e = ap Some (same_list_equal one text e)

begins_is : (xs ys : List ℕ) → begins xs ys ≡ true → BeginsWith xs ys
begins_is [] ys e = (ys, refl)
begins_is (x ∷ xs) [] e = refuted e
begins_is (x ∷ xs) (y ∷ ys) e =
    let a = and_parts (x == y) (begins xs ys) e in
    let h = eqb-true x y a.0 in
    let t = begins_is xs ys a.1 in
    (t.0, let k = t.1 in cc (h, k))

begins_pieces_is : (xs ys : List (List ℕ)) → begins_pieces xs ys ≡ true → BeginsWith xs ys
begins_pieces_is [] ys e = (ys, refl)
begins_pieces_is (x ∷ xs) [] e = refuted e
begins_pieces_is (x ∷ xs) (y ∷ ys) e =
    let a = and_parts (same_list x y) (begins_pieces xs ys) e in
    let h = same_list_equal x y a.0 in
    let t = begins_pieces_is xs ys a.1 in
    (t.0, let k = t.1 in cc (h, k))

borders_kept : (keeps : Bool) (pieces all : List (List ℕ)) → implies keeps (begins_pieces pieces all) ≡ true → KeepsBorders keeps pieces all
borders_kept true pieces all e = begins_pieces_is pieces all e
borders_kept false pieces all e = tt

same_shut_equal : (one other : Shutting) → same_shut one other ≡ true → one ≡ other
same_shut_equal shuts.Nothing shuts.Nothing e = refl
same_shut_equal shuts.Down shuts.Down e = refl
same_shut_equal shuts.Close shuts.Close e = refl
same_shut_equal shuts.Null shuts.Null e = refl
same_shut_equal one other e = refuted e

pub same_why_equal : (one other : Why) → same_why one other ≡ true → one ≡ other
same_why_equal whys.Finished whys.Finished e = refl
same_why_equal whys.ClosingTime whys.ClosingTime e = refl
same_why_equal whys.Idle whys.Idle e = refl
same_why_equal whys.Faulted whys.Faulted e = refl
same_why_equal whys.OpenFailed whys.OpenFailed e = refl
same_why_equal whys.ListenFailed whys.ListenFailed e = refl
same_why_equal whys.AcceptFailed whys.AcceptFailed e = refl
same_why_equal whys.Refused whys.Refused e = refl
same_why_equal whys.Served whys.Served e = refl
same_why_equal whys.Stopped whys.Stopped e = refl
same_why_equal whys.Memory whys.Memory e = refl
same_why_equal one other e = refuted e

-- ---- calls

opens_is : (k : Call) (p : Place) → opens k p ≡ true → (k ≡ Open p) ⊎ (k ≡ Settle p)
opens_is (Open q) p e = inl (ap Open (same_place_equal q p e))
opens_is (Settle q) p e = inr (ap Settle (same_place_equal q p e))
opens_is k p e = refuted e

listens_is : (k : Call) (d : Place) → listens_to k d ≡ true → k ≡ Listen d
listens_is (Listen q) d e = ap Listen (same_place_equal q d e)
listens_is k d e = refuted e

accepts_for_is : (k : Call) (p : Place) → accepts_for k p ≡ true → (d : Place) × (k ≡ Accept d p)
accepts_for_is (Accept d q) p e = (d, ap (Accept d) (same_place_equal q p e))
accepts_for_is k p e = refuted e

accepts_at_is : (k : Call) (d : Place) → accepts_at k d ≡ true → (p : Place) × (k ≡ Accept d p)
accepts_at_is (Accept q p) d e = (p, ap (λ x. Accept x p) (same_place_equal q d e))
accepts_at_is k d e = refuted e

closes_is : (k : Call) (q : Place) (why : Why) → closes k q why ≡ true → ((why ≡ whys.Refused) × (k ≡ Refuse q)) ⊎ ((why ≡ whys.Served) × (k ≡ Serve q))
closes_is (Refuse p) q whys.Refused e = inl (refl, ap Refuse (same_place_equal p q e))
closes_is (Serve d) q whys.Served e = inr (refl, ap Serve (same_place_equal d q e))
closes_is k q why e = refuted e

tried_is : (c : Config) (past : List Act) (k : Call) → accept_tried c past k ≡ true → AcceptTried c past k
tried_is c past (Accept d p) e = e
tried_is c past Nothing e = tt
tried_is c past (TryAt m) e = tt
tried_is c past (Open p) e = tt
tried_is c past (Settle p) e = tt
tried_is c past (Listen d) e = tt
tried_is c past (Refuse p) e = tt
tried_is c past (Serve d) e = tt

-- ---- rest

pub record WayRests (c : Config) (past : List Act) (s : ℕ) (w : Way) : Type 0 where
  pub read_tried : owes_read c past s w ≡ true → asked_to_read past (input c s w) ≡ true
  pub write_tried : owes_write c past s w ≡ true → asked_to_write past (input c s w) (output c s w) ≡ true
  pub passed_on : must_pass c past s w ≡ false

way_is : (c : Config) (past : List Act) (s : ℕ) (w : Way) → way_rests c past s w ≡ true → WayRests c past s w
way_is c past s w e =
    let a = and_parts (implies (owes_read c past s w) (asked_to_read past (input c s w)) && implies (owes_write c past s w) (asked_to_write past (input c s w) (output c s w))) (not (must_pass c past s w)) e in
    let b = and_parts (implies (owes_read c past s w) (asked_to_read past (input c s w))) (implies (owes_write c past s w) (asked_to_write past (input c s w) (output c s w))) a.0 in
    record { read_tried = implied (owes_read c past s w) (asked_to_read past (input c s w)) b.0; write_tried = implied (owes_write c past s w) (asked_to_write past (input c s w) (output c s w)) b.1; passed_on = not-true (must_pass c past s w) a.1 }

session_is : (c : Config) (past : List Act) (s : ℕ) → session_rests c past s ≡ true → SessionRests c past s
session_is c past s e = record {
  ended = λ h. not-true (holds c past s) (implied (is_some (cause c past s)) (not (holds c past s)) a1.0 h);
  no_call = not-true (presses (call c past s)) a1.1;
  read_tried = λ w. (ways w).read_tried;
  write_tried = λ w. (ways w).write_tried;
  passed_on = λ w. (ways w).passed_on;
  accept_tried = tried_is c past (call c past s) a4.1;
}
  where
    one : Bool
    one = implies (is_some (cause c past s)) (not (holds c past s))

    a4 : (((implies (is_some (cause c past s)) (not (holds c past s)) && not (presses (call c past s))) && way_rests c past s LeftToRight && way_rests c past s RightToLeft) ≡ true) × (accept_tried c past (call c past s) ≡ true)
    a4 = and_parts ((implies (is_some (cause c past s)) (not (holds c past s)) && not (presses (call c past s))) && way_rests c past s LeftToRight && way_rests c past s RightToLeft) (accept_tried c past (call c past s)) e

    a3 : (((implies (is_some (cause c past s)) (not (holds c past s)) && not (presses (call c past s))) && way_rests c past s LeftToRight) ≡ true) × (way_rests c past s RightToLeft ≡ true)
    a3 = and_parts ((implies (is_some (cause c past s)) (not (holds c past s)) && not (presses (call c past s))) && way_rests c past s LeftToRight) (way_rests c past s RightToLeft) a4.0

    a2 : ((implies (is_some (cause c past s)) (not (holds c past s)) && not (presses (call c past s))) ≡ true) × (way_rests c past s LeftToRight ≡ true)
    a2 = and_parts (implies (is_some (cause c past s)) (not (holds c past s)) && not (presses (call c past s))) (way_rests c past s LeftToRight) a3.0

    a1 : (implies (is_some (cause c past s)) (not (holds c past s)) ≡ true) × (not (presses (call c past s)) ≡ true)
    a1 = and_parts (implies (is_some (cause c past s)) (not (holds c past s))) (not (presses (call c past s))) a2.0

    ways : (w : Way) → WayRests c past s w
    ways LeftToRight = way_is c past s LeftToRight a2.1
    ways RightToLeft = way_is c past s RightToLeft a3.1

door_is : (c : Config) (past : List Act) → door_rests c past ≡ true → DoorRests c past
door_is c past e =
    let a = and_parts (implies (has_fork c && door_cut past) (not (held past program_door)) && not (presses (door_call c past))) (accept_tried c past (door_call c past)) e in
    let b = and_parts (implies (has_fork c && door_cut past) (not (held past program_door))) (not (presses (door_call c past))) a.0 in
    record { ended = λ h. not-true (held past program_door) (implied (has_fork c && door_cut past) (not (held past program_door)) b.0 h); no_call = not-true (presses (door_call c past)) b.1; accept_tried = tried_is c past (door_call c past) a.1 }

pub rest_is : (c : Config) (n : ℕ) (past : List Act) → Legal c n past → rests c past ≡ true → Rest c past
rest_is c n past legal e =
    let a = and_parts (is_none (outcome c past) && is_none (owed c past) && door_rests c past) (each_below (session_rests c past) (suc (numbers c past))) e in
    let b = and_parts (is_none (outcome c past) && is_none (owed c past)) (door_rests c past) a.0 in
    let d = and_parts (is_none (outcome c past)) (is_none (owed c past)) b.0 in
    record { no_outcome = none_is (outcome c past) d.0; no_dump = none_is (owed c past) d.1; sessions = λ s. one s (cases_lt s (suc (numbers c past))) a.1; door = door_is c past b.1 }
  where
    one : (s : ℕ) → (s < suc (numbers c past)) ⊎ (suc (numbers c past) ≤ s) → each_below (session_rests c past) (suc (numbers c past)) ≡ true → SessionRests c past s
    one s (inl near) all = session_is c past s (each_passes (session_rests c past) (suc (numbers c past)) all s near)
    one s (inr far) all = silent c past s (unbegun_live c past s far) (unbegun_holds c n past s legal far)

-- ---- transfers

ask_is : (c : Config) (past : List Act) (p : Place) → may_ask c past p ≡ true → MayAsk c past p
ask_is c past p e =
    let w = way_from p.side in
    let a = and_parts (same_place p (input c p.session w) && is_going c past p.session w && not (passed c past p.session w) && not (over c past p)) (armed_to_read past p) e in
    let b = and_parts (same_place p (input c p.session w) && is_going c past p.session w && not (passed c past p.session w)) (not (over c past p)) a.0 in
    let d = and_parts (same_place p (input c p.session w) && is_going c past p.session w) (not (passed c past p.session w)) b.0 in
    let f = and_parts (same_place p (input c p.session w)) (is_going c past p.session w) d.0 in
    record { is_input = f.0; moving = f.1; not_passed = not-true (passed c past p.session w) d.1; not_over = not-true (over c past p) b.1; armed = a.1 }

take_is : (c : Config) (past : List Act) (p : Place) (n : ℕ) → may_take c past p n ≡ true → MayRead c past p n
take_is c past p n e =
    let a = and_parts (may_ask c past p && nat_le 1 n) (nat_le n (greatest_read c past p.session (way_from p.side))) e in
    let b = and_parts (may_ask c past p) (nat_le 1 n) a.0 in
    record { asks = ask_is c past p b.0; some_bytes = leb-true 1 n b.1; in_room = leb-true n (greatest_read c past p.session (way_from p.side)) a.1 }

offer_is : (c : Config) (past : List Act) (p : Place) → may_offer c past p ≡ true → MayOffer c past p
offer_is c past p e =
    let w = way_to p.side in
    let b = and_parts (same_place p (output c p.session w) && is_going c past p.session w && not (passed c past p.session w)) (armed_to_write past p) e in
    let d = and_parts (same_place p (output c p.session w) && is_going c past p.session w) (not (passed c past p.session w)) b.0 in
    let f = and_parts (same_place p (output c p.session w)) (is_going c past p.session w) d.0 in
    record { is_output = f.0; moving = f.1; not_passed = not-true (passed c past p.session w) d.1; armed = b.1 }

put_is : (c : Config) (past : List Act) (p : Place) (bytes : List ℕ) → may_put c past p bytes ≡ true → MayWrite c past p bytes
put_is c past p bytes e =
    let w = way_to p.side in
    let whole = due c w (got past (input c p.session w)) in
    let a = and_parts (may_offer c past p && nat_le 1 (length bytes) && begins (put past p ++ bytes) whole) (implies (keeps_borders c w) (begins_pieces (sent past p ++ bytes ∷ []) (due_pieces c past p.session w))) e in
    let b = and_parts (may_offer c past p && nat_le 1 (length bytes)) (begins (put past p ++ bytes) whole) a.0 in
    let d = and_parts (may_offer c past p) (nat_le 1 (length bytes)) b.0 in
    record { offers = offer_is c past p d.0; some_bytes = leb-true 1 (length bytes) d.1; is_due = begins_is (put past p ++ bytes) whole b.1; pieces = borders_kept (keeps_borders c w) (sent past p ++ bytes ∷ []) (due_pieces c past p.session w) a.1 }

try_write_is : (c : Config) (past : List Act) (p : Place) → (may_offer c past p && nat_le 1 (backlog c past p.session (way_to p.side))) ≡ true → MayTryWrite c past p
try_write_is c past p e =
    let a = and_parts (may_offer c past p) (nat_le 1 (backlog c past p.session (way_to p.side))) e in
    record { offers = offer_is c past p a.0; waiting = leb-true 1 (backlog c past p.session (way_to p.side)) a.1 }

shut_is : (c : Config) (past : List Act) (p : Place) (way : Shutting) → may_shut c past p way ≡ true → MayShut c past p way
shut_is c past p way e =
    let w = way_to p.side in
    let a = and_parts (same_place p (output c p.session w) && is_going c past p.session w && is_spent c past p.session w && not (passed c past p.session w)) (same_shut way (how c p)) e in
    let b = and_parts (same_place p (output c p.session w) && is_going c past p.session w && is_spent c past p.session w) (not (passed c past p.session w)) a.0 in
    let d = and_parts (same_place p (output c p.session w) && is_going c past p.session w) (is_spent c past p.session w) b.0 in
    let f = and_parts (same_place p (output c p.session w)) (is_going c past p.session w) d.0 in
    record { is_output = f.0; moving = f.1; spent = d.1; not_passed = not-true (passed c past p.session w) b.1; is_how = same_shut_equal way (how c p) a.1 }

-- ---- closings

cause_is : (o : Option Why) (why : Why) → is_cause o why ≡ true → o ≡ Some why
cause_is None why e = refuted e
cause_is (Some one) why e = ap Some (same_why_equal one why e)

door_ends_is : (past : List Act) (why : Why) → door_ends past why ≡ true → DoorEnds past why
door_ends_is past whys.Memory e = for_memory refl e
door_ends_is past whys.Stopped e = for_stop refl e
door_ends_is past whys.AcceptFailed e = for_accept refl e
door_ends_is past why e = refuted e

memory_is : (b : Bool) (o : Option Why) → (b || is_none o) ≡ true → (b ≡ true) ⊎ (o ≡ None)
memory_is true o e = inl refl
memory_is false o e = inr (none_is o e)

timely_is : (o : Option (List ℕ)) (why : Why) → (is_none o || same_why why whys.Memory) ≡ true → (o ≡ None) ⊎ (why ≡ whys.Memory)
timely_is None why e = inl refl
timely_is (Some text) why e = inr (same_why_equal why whys.Memory e)

licensed_is :
    (c : Config) (n : ℕ) (past : List Act) (q : Place) (why : Why) → Legal c n past →
    (not (is_program_door c q) && is_cause (cause c past q.session) why
    || closes (called_at c past q) q why
    || is_program_door c q && door_ends past why
    || same_why why whys.Memory && (is_program_door c q || is_none (closed_why c past q.session))
    || same_why why whys.Stopped && turns past == n && rests c past) ≡ true →
    Licensed c n past q why
licensed_is c n past q why legal e =
    five (not (is_program_door c q) && is_cause (cause c past q.session) why) (closes (called_at c past q) q why) (is_program_door c q && door_ends past why) (same_why why whys.Memory && (is_program_door c q || is_none (closed_why c past q.session))) (same_why why whys.Stopped && turns past == n && rests c past)
    (λ a. let t = and_parts (not (is_program_door c q)) (is_cause (cause c past q.session) why) a in by_cause (not-true (is_program_door c q) t.0) (cause_is (cause c past q.session) why t.1))
    (λ a. called (closes_is (called_at c past q) q why a))
    (λ a. let t = and_parts (is_program_door c q) (door_ends past why) a in by_door t.0 (door_ends_is past why t.1))
    (λ a. let t = and_parts (same_why why whys.Memory) (is_program_door c q || is_none (closed_why c past q.session)) a in by_memory (same_why_equal why whys.Memory t.0) (memory_is (is_program_door c q) (closed_why c past q.session) t.1))
    (λ a. let t = and_parts (same_why why whys.Stopped && turns past == n) (rests c past) a in let u = and_parts (same_why why whys.Stopped) (turns past == n) t.0 in by_turns (same_why_equal why whys.Stopped u.0) (eqb-true (turns past) n u.1) (rest_is c n past legal t.1))
    e
  where
    called : ((why ≡ whys.Refused) × (called_at c past q ≡ Refuse q)) ⊎ ((why ≡ whys.Served) × (called_at c past q ≡ Serve q)) → Licensed c n past q why
    called (inl r) = by_refusal r.0 r.1
    called (inr r) = by_service r.0 r.1

    five : (a b d f g : Bool) → (a ≡ true → Licensed c n past q why) → (b ≡ true → Licensed c n past q why) → (d ≡ true → Licensed c n past q why) → (f ≡ true → Licensed c n past q why) → (g ≡ true → Licensed c n past q why) → (a || b || d || f || g) ≡ true → Licensed c n past q why
    five true b d f g la lb ld lf lg h = la refl
    five false true d f g la lb ld lf lg h = lb refl
    five false false true f g la lb ld lf lg h = ld refl
    five false false false true g la lb ld lf lg h = lf refl
    five false false false false g la lb ld lf lg h = lg h

close_is : (c : Config) (n : ℕ) (past : List Act) (q : Place) (why : Why) → Legal c n past → may_close c n past q why ≡ true → MayClose c n past q why
close_is c n past q why legal e =
    let licence = not (is_program_door c q) && is_cause (cause c past q.session) why || closes (called_at c past q) q why || is_program_door c q && door_ends past why || same_why why whys.Memory && (is_program_door c q || is_none (closed_why c past q.session)) || same_why why whys.Stopped && turns past == n && rests c past in
    let a = and_parts (held past q && licence) (is_none (owed c past) || same_why why whys.Memory) e in
    let b = and_parts (held past q) licence a.0 in
    record { is_held = b.0; licensed = licensed_is c n past q why legal b.1; timely = timely_is (owed c past) why a.1 }

-- ---- all acts

in_time : (c : Config) (past : List Act) (test : Bool) (P : Type 0) → timely c past test ≡ true → (test ≡ true → P) → (owed c past ≡ None) × P
in_time c past test P e f = let a = and_parts (is_none (owed c past)) test e in (none_is (owed c past) a.0, f a.1)

turn_is : (c : Config) (n : ℕ) (past : List Act) (until : Option ℕ) → Legal c n past → (nat_lt (turns past) n && rests c past && same_number until (until_of c past)) ≡ true → MayTurn c n past until
turn_is c n past until legal e =
    let a = and_parts (nat_lt (turns past) n && rests c past) (same_number until (until_of c past)) e in
    let b = and_parts (nat_lt (turns past) n) (rests c past) a.0 in
    record { turns_left = ltb-true (turns past) n b.0; rests = rest_is c n past legal b.1; is_until = same_number_equal until (until_of c past) a.1 }

reap_is : (c : Config) (past : List Act) (p : Place) → (is_program (medium_of c p) && was_closed past p && not (was_reaped past p)) ≡ true → MayReap c past p
reap_is c past p e =
    let a = and_parts (is_program (medium_of c p) && was_closed past p) (not (was_reaped past p)) e in
    let b = and_parts (is_program (medium_of c p)) (was_closed past p) a.0 in
    record { is_child = b.0; closed = b.1; first = not-true (was_reaped past p) a.1 }

pub may_is : (c : Config) (n : ℕ) (past : List Act) (act : Act) → Legal c n past → may_come c n past act ≡ true → May c n past act
may_is c n past (Turn until at ready stop) legal e = in_time c past (nat_lt (turns past) n && rests c past && same_number until (until_of c past)) (MayTurn c n past until) e (turn_is c n past until legal)
may_is c n past (Opened p) legal e = in_time c past (opens (called_at c past p) p) (MayOpen c past p) e (opens_is (called_at c past p) p)
may_is c n past (OpenLater p) legal e = in_time c past (opens (called_at c past p) p) (MayOpen c past p) e (opens_is (called_at c past p) p)
may_is c n past (OpenFailed p) legal e = in_time c past (opens (called_at c past p) p) (MayOpen c past p) e (opens_is (called_at c past p) p)
may_is c n past (Listening d) legal e = in_time c past (listens_to (called_at c past d) d) (called_at c past d ≡ Listen d) e (listens_is (called_at c past d) d)
may_is c n past (ListenFailed d) legal e = in_time c past (listens_to (called_at c past d) d) (called_at c past d ≡ Listen d) e (listens_is (called_at c past d) d)
may_is c n past (Accepted p peer) legal e = in_time c past (accepts_for (called_at c past p) p) ((d : Place) × (called_at c past p ≡ Accept d p)) e (accepts_for_is (called_at c past p) p)
may_is c n past (NoPeer d) legal e = in_time c past (accepts_at (called_at c past d) d) (MayAccept c past d) e (accepts_at_is (called_at c past d) d)
may_is c n past (AcceptFailed d) legal e = in_time c past (accepts_at (called_at c past d) d) (MayAccept c past d) e (accepts_at_is (called_at c past d) d)
may_is c n past (Read p bytes) legal e = in_time c past (may_take c past p (length bytes)) (MayRead c past p (length bytes)) e (take_is c past p (length bytes))
may_is c n past (ReadEmpty p) legal e = in_time c past (may_take c past p 1) (MayRead c past p 1) e (take_is c past p 1)
may_is c n past (ReadEnd p) legal e = in_time c past (may_take c past p 1) (MayRead c past p 1) e (take_is c past p 1)
may_is c n past (ReadNotYet p) legal e = in_time c past (may_take c past p 1) (MayRead c past p 1) e (take_is c past p 1)
may_is c n past (ReadFault p) legal e = in_time c past (may_take c past p 1) (MayRead c past p 1) e (take_is c past p 1)
may_is c n past (Wrote p bytes) legal e = in_time c past (may_put c past p bytes) (MayWrite c past p bytes) e (put_is c past p bytes)
may_is c n past (WriteNotYet p) legal e = in_time c past (may_offer c past p && nat_le 1 (backlog c past p.session (way_to p.side))) (MayTryWrite c past p) e (try_write_is c past p)
may_is c n past (WriteFault p) legal e = in_time c past (may_offer c past p && nat_le 1 (backlog c past p.session (way_to p.side))) (MayTryWrite c past p) e (try_write_is c past p)
may_is c n past (Shut p way) legal e = in_time c past (may_shut c past p way) (MayShut c past p way) e (shut_is c past p way)
may_is c n past (ShutFault p way) legal e = in_time c past (may_shut c past p way) (MayShut c past p way) e (shut_is c past p way)
may_is c n past (Closed q why) legal e = close_is c n past q why legal e
may_is c n past (Reaped p end) legal e = in_time c past (is_program (medium_of c p) && was_closed past p && not (was_reaped past p)) (MayReap c past p) e (reap_is c past p)
may_is c n past (Note text) legal e = same_text_equal (owed c past) text e
may_is c n past (NoteFault text) legal e = same_text_equal (owed c past) text e

two_pass : (m : ℕ) (b : Bool) (k : ℕ) → first_of_two m b (suc k) ≡ 0 → (m ≡ 0) × (b ≡ true)
two_pass zero true k e = (refl, refl)
two_pass zero false k e = let x : ⊥ = omega (arith, e) in absurd x
two_pass (suc m) b k e = let x : ⊥ = omega (arith, e) in absurd x

-- a journal without a first act that may not come is legal
pub legal_is : (c : Config) (n : ℕ) (past : List Act) → first_illegal c n past ≡ 0 → Legal c n past
legal_is c n [] e = tt
legal_is c n (act ∷ past) e =
    let a = two_pass (first_illegal c n past) (may_come c n past act) (length past) e in
    let legal = legal_is c n past a.0 in
    (may_is c n past act legal a.1, legal)
