-- What may come passes the tests that compute, so they refuse nothing that is legal.
use Rattle.std.proofs.Common.{◌≡◌, refl, sym, subst, ℕ, zero, suc, Bool, true, false, not, ◌&&◌, ◌||◌, ◌==◌, nat_le, nat_lt, is_some, is_none, List, [], ◌∷◌, ◌++◌, length, Option, Some, None, inl, inr, ◌⊎◌}
use Rattle.std.proofs.lemmas.Bool.{false≢true, and_from, or_left, or_right, lt-ltb, le-leb, eq-eqb, not_from_false}
use Rattle.relay_model.specs.declared.places.Way.{Way}
use Rattle.relay_model.specs.declared.places.Way.TheVariants.{LeftToRight, RightToLeft}
use Rattle.relay_model.specs.declared.places.Place.{Place}
use Rattle.relay_model.specs.declared.commands.Config.{Config}
use Rattle.relay_model.specs.declared.acts.Why.{Why}
use Rattle.relay_model.specs.declared.acts.Why.TheVariants as whys
use Rattle.relay_model.specs.declared.acts.Shut.{Shut as Shutting}
use Rattle.relay_model.specs.declared.acts.Shut.TheVariants as shuts
use Rattle.relay_model.specs.declared.acts.Act.{Act}
use Rattle.relay_model.specs.declared.acts.Act.TheVariants.{Turn, Opened, OpenLater, OpenFailed, Listening, ListenFailed, Accepted, NoPeer, AcceptFailed, Read, ReadEmpty, ReadEnd, ReadNotYet, ReadFault, Wrote, WriteNotYet, WriteFault, Shut, ShutFault, Closed, Reaped, Note, NoteFault}
use Rattle.relay_model.specs.Places.{same_place}
use Rattle.relay_model.specs.Choices.{each_below}
use Rattle.relay_model.specs.Configs.{input, output, way_from, way_to, is_program_door, program_door, has_fork, medium_of, is_program, keeps_borders, how}
use Rattle.relay_model.specs.History.{turns, held, got, put, sent, was_closed, was_reaped, same_why}
use Rattle.relay_model.specs.Arming.{armed_to_read, armed_to_write, asked_to_read, asked_to_write}
use Rattle.relay_model.specs.Sessions.{holds, numbers}
use Rattle.relay_model.specs.Transfers.{due, due_pieces, over, backlog, greatest_read, is_spent}
use Rattle.relay_model.specs.Moments.{passed}
use Rattle.relay_model.specs.declared.calls.Call.{Call}
use Rattle.relay_model.specs.declared.calls.Call.TheVariants.{Nothing, TryAt, Open, Settle, Listen, Accept, Refuse, Serve}
use Rattle.relay_model.specs.Cause.{cause, closed_why}
use Rattle.relay_model.specs.Calls.{called_at, call, door_call, door_cut}
use Rattle.relay_model.specs.Outcome.{outcome}
use Rattle.relay_model.specs.Rest.{owed, is_going, owes_read, owes_write, must_pass, presses, AcceptTried, SessionRests, DoorRests, Rest, until_of}
use Rattle.relay_model.specs.May.{MayAsk, MayRead, MayOffer, MayWrite, MayTryWrite, MayShut, MayClose, MayTurn, MayReap, DoorEnds, for_memory, for_stop, for_accept, Licensed, by_cause, by_refusal, by_service, by_door, by_memory, by_turns, BeginsWith, KeepsBorders, May, Legal}
use Rattle.relay_model.specs.Audit.{implies, accept_tried, way_rests, session_rests, door_rests, rests, same_number, same_list, same_text, begins, begins_pieces, same_shut, opens, listens_to, accepts_for, accepts_at, closes, may_ask, may_take, may_offer, may_put, may_shut, door_ends, is_cause, may_close, timely, may_come, first_of_two, first_illegal}
use Rattle.relay_laws.proofs.PlaceLemmas.{same_place_self}
use Rattle.relay_laws.proofs.Sound.{may_is, legal_is}

-- ---- small tests

refuted : {P : Type 0} → false ≡ true → P
refuted e = absurd (false≢true e)

is_none_is : {T : Type 0} (o : Option T) → o ≡ None → is_none o ≡ true
is_none_is o e = subst (λ x. is_none x ≡ true) (sym e) refl

implies_is : (a b : Bool) → (a ≡ true → b ≡ true) → implies a b ≡ true
implies_is true b f = f refl
implies_is false b f = refl

each_is : (test : ℕ → Bool) (k : ℕ) → ((s : ℕ) → test s ≡ true) → each_below test k ≡ true
each_is test zero f = refl
each_is test (suc k) f = and_from (test k) (each_below test k) (f k) (each_is test k f)

number_is : (o : Option ℕ) → same_number o o ≡ true
number_is None = refl
number_is (Some m) = eq-eqb m m refl

list_is : (xs : List ℕ) → same_list xs xs ≡ true
list_is [] = refl
list_is (x ∷ xs) = and_from (x == x) (same_list xs xs) (eq-eqb x x refl) (list_is xs)

text_is : (o : Option (List ℕ)) (text : List ℕ) → o ≡ Some text → same_text o text ≡ true
text_is o text e = subst (λ x. same_text x text ≡ true) (sym e) (list_is text)

begins_front : (xs rest : List ℕ) → begins xs (xs ++ rest) ≡ true
begins_front [] rest = refl
begins_front (x ∷ xs) rest = and_from (x == x) (begins xs (xs ++ rest)) (eq-eqb x x refl) (begins_front xs rest)

begins_test : (xs ys : List ℕ) → BeginsWith xs ys → begins xs ys ≡ true
begins_test xs ys (rest, e) = subst (λ l. begins xs l ≡ true) (sym e) (begins_front xs rest)

pieces_front : (xs rest : List (List ℕ)) → begins_pieces xs (xs ++ rest) ≡ true
pieces_front [] rest = refl
pieces_front (x ∷ xs) rest = and_from (same_list x x) (begins_pieces xs (xs ++ rest)) (list_is x) (pieces_front xs rest)

borders_test : (keeps : Bool) (pieces all : List (List ℕ)) → KeepsBorders keeps pieces all → implies keeps (begins_pieces pieces all) ≡ true
borders_test true pieces all (rest, e) = subst (λ l. begins_pieces pieces l ≡ true) (sym e) (pieces_front pieces rest)
borders_test false pieces all h = refl

shut_same : (way : Shutting) → same_shut way way ≡ true
shut_same shuts.Nothing = refl
shut_same shuts.Down = refl
shut_same shuts.Close = refl
shut_same shuts.Null = refl

why_same : (why : Why) → same_why why why ≡ true
why_same whys.Finished = refl
why_same whys.ClosingTime = refl
why_same whys.Idle = refl
why_same whys.Faulted = refl
why_same whys.OpenFailed = refl
why_same whys.ListenFailed = refl
why_same whys.AcceptFailed = refl
why_same whys.Refused = refl
why_same whys.Served = refl
why_same whys.Stopped = refl
why_same whys.Memory = refl

why_is : (one other : Why) → one ≡ other → same_why one other ≡ true
why_is one other e = subst (λ x. same_why one x ≡ true) e (why_same one)

-- ---- calls

opens_test : (k : Call) (p : Place) → (k ≡ Open p) ⊎ (k ≡ Settle p) → opens k p ≡ true
opens_test k p (inl e) = subst (λ x. opens x p ≡ true) (sym e) (same_place_self p)
opens_test k p (inr e) = subst (λ x. opens x p ≡ true) (sym e) (same_place_self p)

listens_test : (k : Call) (d : Place) → k ≡ Listen d → listens_to k d ≡ true
listens_test k d e = subst (λ x. listens_to x d ≡ true) (sym e) (same_place_self d)

accepts_for_test : (k : Call) (p : Place) → ((d : Place) × (k ≡ Accept d p)) → accepts_for k p ≡ true
accepts_for_test k p (d, e) = subst (λ x. accepts_for x p ≡ true) (sym e) (same_place_self p)

accepts_at_test : (k : Call) (d : Place) → ((p : Place) × (k ≡ Accept d p)) → accepts_at k d ≡ true
accepts_at_test k d (p, e) = subst (λ x. accepts_at x d ≡ true) (sym e) (same_place_self d)

refuses_test : (k : Call) (q : Place) (why : Why) → why ≡ whys.Refused → k ≡ Refuse q → closes k q why ≡ true
refuses_test k q why w e = subst (λ x. closes k q x ≡ true) (sym w) (subst (λ x. closes x q whys.Refused ≡ true) (sym e) (same_place_self q))

serves_test : (k : Call) (q : Place) (why : Why) → why ≡ whys.Served → k ≡ Serve q → closes k q why ≡ true
serves_test k q why w e = subst (λ x. closes k q x ≡ true) (sym w) (subst (λ x. closes x q whys.Served ≡ true) (sym e) (same_place_self q))

tried_test : (c : Config) (past : List Act) (k : Call) → AcceptTried c past k → accept_tried c past k ≡ true
tried_test c past (Accept d p) h = h
tried_test c past Nothing h = refl
tried_test c past (TryAt m) h = refl
tried_test c past (Open p) h = refl
tried_test c past (Settle p) h = refl
tried_test c past (Listen d) h = refl
tried_test c past (Refuse p) h = refl
tried_test c past (Serve d) h = refl

-- ---- rest

way_test : (c : Config) (past : List Act) (s : ℕ) (w : Way) → SessionRests c past s → way_rests c past s w ≡ true
way_test c past s w r =
    and_from (implies (owes_read c past s w) (asked_to_read past (input c s w)) && implies (owes_write c past s w) (asked_to_write past (input c s w) (output c s w))) (not (must_pass c past s w))
    (and_from (implies (owes_read c past s w) (asked_to_read past (input c s w))) (implies (owes_write c past s w) (asked_to_write past (input c s w) (output c s w)))
    (implies_is (owes_read c past s w) (asked_to_read past (input c s w)) (r.read_tried w))
    (implies_is (owes_write c past s w) (asked_to_write past (input c s w) (output c s w)) (r.write_tried w)))
    (not_from_false (must_pass c past s w) (r.passed_on w))

session_test : (c : Config) (past : List Act) (s : ℕ) → SessionRests c past s → session_rests c past s ≡ true
session_test c past s r =
    and_from ((implies (is_some (cause c past s)) (not (holds c past s)) && not (presses (call c past s))) && way_rests c past s LeftToRight && way_rests c past s RightToLeft) (accept_tried c past (call c past s))
    (and_from ((implies (is_some (cause c past s)) (not (holds c past s)) && not (presses (call c past s))) && way_rests c past s LeftToRight) (way_rests c past s RightToLeft)
    (and_from (implies (is_some (cause c past s)) (not (holds c past s)) && not (presses (call c past s))) (way_rests c past s LeftToRight)
    (and_from (implies (is_some (cause c past s)) (not (holds c past s))) (not (presses (call c past s)))
    (implies_is (is_some (cause c past s)) (not (holds c past s)) (λ h. not_from_false (holds c past s) (r.ended h)))
    (not_from_false (presses (call c past s)) r.no_call))
    (way_test c past s LeftToRight r))
    (way_test c past s RightToLeft r))
    (tried_test c past (call c past s) r.accept_tried)

door_test : (c : Config) (past : List Act) → DoorRests c past → door_rests c past ≡ true
door_test c past r =
    and_from (implies (has_fork c && door_cut past) (not (held past program_door)) && not (presses (door_call c past))) (accept_tried c past (door_call c past))
    (and_from (implies (has_fork c && door_cut past) (not (held past program_door))) (not (presses (door_call c past)))
    (implies_is (has_fork c && door_cut past) (not (held past program_door)) (λ h. not_from_false (held past program_door) (r.ended h)))
    (not_from_false (presses (door_call c past)) r.no_call))
    (tried_test c past (door_call c past) r.accept_tried)

pub rest_test : (c : Config) (past : List Act) → Rest c past → rests c past ≡ true
rest_test c past r =
    and_from (is_none (outcome c past) && is_none (owed c past) && door_rests c past) (each_below (session_rests c past) (suc (numbers c past)))
    (and_from (is_none (outcome c past) && is_none (owed c past)) (door_rests c past)
    (and_from (is_none (outcome c past)) (is_none (owed c past)) (is_none_is (outcome c past) r.no_outcome) (is_none_is (owed c past) r.no_dump))
    (door_test c past r.door))
    (each_is (session_rests c past) (suc (numbers c past)) (λ s. session_test c past s (r.sessions s)))

-- ---- transfers

ask_test : (c : Config) (past : List Act) (p : Place) → MayAsk c past p → may_ask c past p ≡ true
ask_test c past p m =
    let w = way_from p.side in
    and_from (same_place p (input c p.session w) && is_going c past p.session w && not (passed c past p.session w) && not (over c past p)) (armed_to_read past p)
    (and_from (same_place p (input c p.session w) && is_going c past p.session w && not (passed c past p.session w)) (not (over c past p))
    (and_from (same_place p (input c p.session w) && is_going c past p.session w) (not (passed c past p.session w))
    (and_from (same_place p (input c p.session w)) (is_going c past p.session w) m.is_input m.moving)
    (not_from_false (passed c past p.session w) m.not_passed))
    (not_from_false (over c past p) m.not_over))
    m.armed

take_test : (c : Config) (past : List Act) (p : Place) (n : ℕ) → MayRead c past p n → may_take c past p n ≡ true
take_test c past p n m =
    and_from (may_ask c past p && nat_le 1 n) (nat_le n (greatest_read c past p.session (way_from p.side)))
    (and_from (may_ask c past p) (nat_le 1 n) (ask_test c past p m.asks) (le-leb 1 n m.some_bytes))
    (le-leb n (greatest_read c past p.session (way_from p.side)) m.in_room)

offer_test : (c : Config) (past : List Act) (p : Place) → MayOffer c past p → may_offer c past p ≡ true
offer_test c past p m =
    let w = way_to p.side in
    and_from (same_place p (output c p.session w) && is_going c past p.session w && not (passed c past p.session w)) (armed_to_write past p)
    (and_from (same_place p (output c p.session w) && is_going c past p.session w) (not (passed c past p.session w))
    (and_from (same_place p (output c p.session w)) (is_going c past p.session w) m.is_output m.moving)
    (not_from_false (passed c past p.session w) m.not_passed))
    m.armed

put_test : (c : Config) (past : List Act) (p : Place) (bytes : List ℕ) → MayWrite c past p bytes → may_put c past p bytes ≡ true
put_test c past p bytes m =
    let w = way_to p.side in
    let whole = due c w (got past (input c p.session w)) in
    and_from (may_offer c past p && nat_le 1 (length bytes) && begins (put past p ++ bytes) whole) (implies (keeps_borders c w) (begins_pieces (sent past p ++ bytes ∷ []) (due_pieces c past p.session w)))
    (and_from (may_offer c past p && nat_le 1 (length bytes)) (begins (put past p ++ bytes) whole)
    (and_from (may_offer c past p) (nat_le 1 (length bytes)) (offer_test c past p m.offers) (le-leb 1 (length bytes) m.some_bytes))
    (begins_test (put past p ++ bytes) whole m.is_due))
    (borders_test (keeps_borders c w) (sent past p ++ bytes ∷ []) (due_pieces c past p.session w) m.pieces)

try_write_test : (c : Config) (past : List Act) (p : Place) → MayTryWrite c past p → (may_offer c past p && nat_le 1 (backlog c past p.session (way_to p.side))) ≡ true
try_write_test c past p m = and_from (may_offer c past p) (nat_le 1 (backlog c past p.session (way_to p.side))) (offer_test c past p m.offers) (le-leb 1 (backlog c past p.session (way_to p.side)) m.waiting)

shut_test : (c : Config) (past : List Act) (p : Place) (way : Shutting) → MayShut c past p way → may_shut c past p way ≡ true
shut_test c past p way m =
    let w = way_to p.side in
    and_from (same_place p (output c p.session w) && is_going c past p.session w && is_spent c past p.session w && not (passed c past p.session w)) (same_shut way (how c p))
    (and_from (same_place p (output c p.session w) && is_going c past p.session w && is_spent c past p.session w) (not (passed c past p.session w))
    (and_from (same_place p (output c p.session w) && is_going c past p.session w) (is_spent c past p.session w)
    (and_from (same_place p (output c p.session w)) (is_going c past p.session w) m.is_output m.moving)
    m.spent)
    (not_from_false (passed c past p.session w) m.not_passed))
    (subst (λ x. same_shut way x ≡ true) m.is_how (shut_same way))

-- ---- closings

cause_test : (o : Option Why) (why : Why) → o ≡ Some why → is_cause o why ≡ true
cause_test o why e = subst (λ x. is_cause x why ≡ true) (sym e) (why_same why)

door_ends_test : (past : List Act) (why : Why) → DoorEnds past why → door_ends past why ≡ true
door_ends_test past why (for_memory w e) = subst (λ x. door_ends past x ≡ true) (sym w) e
door_ends_test past why (for_stop w e) = subst (λ x. door_ends past x ≡ true) (sym w) e
door_ends_test past why (for_accept w e) = subst (λ x. door_ends past x ≡ true) (sym w) e

memory_test : (b : Bool) (o : Option Why) → (b ≡ true) ⊎ (o ≡ None) → (b || is_none o) ≡ true
memory_test b o (inl e) = or_left b (is_none o) e
memory_test b o (inr e) = or_right b (is_none o) (is_none_is o e)

timely_test : (o : Option (List ℕ)) (why : Why) → (o ≡ None) ⊎ (why ≡ whys.Memory) → (is_none o || same_why why whys.Memory) ≡ true
timely_test o why (inl e) = or_left (is_none o) (same_why why whys.Memory) (is_none_is o e)
timely_test o why (inr e) = or_right (is_none o) (same_why why whys.Memory) (why_is why whys.Memory e)

-- one of five tests holds
first-five : (a b d f g : Bool) → a ≡ true → (a || b || d || f || g) ≡ true
first-five a b d f g e = or_left (a || b || d || f) g (or_left (a || b || d) f (or_left (a || b) d (or_left a b e)))

second-five : (a b d f g : Bool) → b ≡ true → (a || b || d || f || g) ≡ true
second-five a b d f g e = or_left (a || b || d || f) g (or_left (a || b || d) f (or_left (a || b) d (or_right a b e)))

third-five : (a b d f g : Bool) → d ≡ true → (a || b || d || f || g) ≡ true
third-five a b d f g e = or_left (a || b || d || f) g (or_left (a || b || d) f (or_right (a || b) d e))

fourth-five : (a b d f g : Bool) → f ≡ true → (a || b || d || f || g) ≡ true
fourth-five a b d f g e = or_left (a || b || d || f) g (or_right (a || b || d) f e)

fifth-five : (a b d f g : Bool) → g ≡ true → (a || b || d || f || g) ≡ true
fifth-five a b d f g e = or_right (a || b || d || f) g e

licensed_test :
    (c : Config) (n : ℕ) (past : List Act) (q : Place) (why : Why) → Licensed c n past q why →
    (not (is_program_door c q) && is_cause (cause c past q.session) why
    || closes (called_at c past q) q why
    || is_program_door c q && door_ends past why
    || same_why why whys.Memory && (is_program_door c q || is_none (closed_why c past q.session))
    || same_why why whys.Stopped && turns past == n && rests c past) ≡ true
licensed_test c n past q why (by_cause own e) = first-five (not (is_program_door c q) && is_cause (cause c past q.session) why) (closes (called_at c past q) q why) (is_program_door c q && door_ends past why) (same_why why whys.Memory && (is_program_door c q || is_none (closed_why c past q.session))) (same_why why whys.Stopped && turns past == n && rests c past) (and_from (not (is_program_door c q)) (is_cause (cause c past q.session) why) (not_from_false (is_program_door c q) own) (cause_test (cause c past q.session) why e))
licensed_test c n past q why (by_refusal w e) = second-five (not (is_program_door c q) && is_cause (cause c past q.session) why) (closes (called_at c past q) q why) (is_program_door c q && door_ends past why) (same_why why whys.Memory && (is_program_door c q || is_none (closed_why c past q.session))) (same_why why whys.Stopped && turns past == n && rests c past) (refuses_test (called_at c past q) q why w e)
licensed_test c n past q why (by_service w e) = second-five (not (is_program_door c q) && is_cause (cause c past q.session) why) (closes (called_at c past q) q why) (is_program_door c q && door_ends past why) (same_why why whys.Memory && (is_program_door c q || is_none (closed_why c past q.session))) (same_why why whys.Stopped && turns past == n && rests c past) (serves_test (called_at c past q) q why w e)
licensed_test c n past q why (by_door d e) = third-five (not (is_program_door c q) && is_cause (cause c past q.session) why) (closes (called_at c past q) q why) (is_program_door c q && door_ends past why) (same_why why whys.Memory && (is_program_door c q || is_none (closed_why c past q.session))) (same_why why whys.Stopped && turns past == n && rests c past) (and_from (is_program_door c q) (door_ends past why) d (door_ends_test past why e))
licensed_test c n past q why (by_memory w e) = fourth-five (not (is_program_door c q) && is_cause (cause c past q.session) why) (closes (called_at c past q) q why) (is_program_door c q && door_ends past why) (same_why why whys.Memory && (is_program_door c q || is_none (closed_why c past q.session))) (same_why why whys.Stopped && turns past == n && rests c past) (and_from (same_why why whys.Memory) (is_program_door c q || is_none (closed_why c past q.session)) (why_is why whys.Memory w) (memory_test (is_program_door c q) (closed_why c past q.session) e))
licensed_test c n past q why (by_turns w t r) = fifth-five (not (is_program_door c q) && is_cause (cause c past q.session) why) (closes (called_at c past q) q why) (is_program_door c q && door_ends past why) (same_why why whys.Memory && (is_program_door c q || is_none (closed_why c past q.session))) (same_why why whys.Stopped && turns past == n && rests c past) (and_from (same_why why whys.Stopped && turns past == n) (rests c past) (and_from (same_why why whys.Stopped) (turns past == n) (why_is why whys.Stopped w) (eq-eqb (turns past) n t)) (rest_test c past r))

close_test : (c : Config) (n : ℕ) (past : List Act) (q : Place) (why : Why) → MayClose c n past q why → may_close c n past q why ≡ true
close_test c n past q why m =
    let licence = not (is_program_door c q) && is_cause (cause c past q.session) why || closes (called_at c past q) q why || is_program_door c q && door_ends past why || same_why why whys.Memory && (is_program_door c q || is_none (closed_why c past q.session)) || same_why why whys.Stopped && turns past == n && rests c past in
    and_from (held past q && licence) (is_none (owed c past) || same_why why whys.Memory)
    (and_from (held past q) licence m.is_held (licensed_test c n past q why m.licensed))
    (timely_test (owed c past) why m.timely)

-- ---- all acts

in_time_test : (c : Config) (past : List Act) (test : Bool) → owed c past ≡ None → test ≡ true → timely c past test ≡ true
in_time_test c past test o t = and_from (is_none (owed c past)) test (is_none_is (owed c past) o) t

turn_test : (c : Config) (n : ℕ) (past : List Act) (until : Option ℕ) → MayTurn c n past until → (nat_lt (turns past) n && rests c past && same_number until (until_of c past)) ≡ true
turn_test c n past until m =
    and_from (nat_lt (turns past) n && rests c past) (same_number until (until_of c past))
    (and_from (nat_lt (turns past) n) (rests c past) (lt-ltb (turns past) n m.turns_left) (rest_test c past m.rests))
    (subst (λ o. same_number until o ≡ true) m.is_until (number_is until))

reap_test : (c : Config) (past : List Act) (p : Place) → MayReap c past p → (is_program (medium_of c p) && was_closed past p && not (was_reaped past p)) ≡ true
reap_test c past p m =
    and_from (is_program (medium_of c p) && was_closed past p) (not (was_reaped past p))
    (and_from (is_program (medium_of c p)) (was_closed past p) m.is_child m.closed)
    (not_from_false (was_reaped past p) m.first)

pub may_test : (c : Config) (n : ℕ) (past : List Act) (act : Act) → May c n past act → may_come c n past act ≡ true
may_test c n past (Turn until at ready stop) m = in_time_test c past (nat_lt (turns past) n && rests c past && same_number until (until_of c past)) m.0 (turn_test c n past until m.1)
may_test c n past (Opened p) m = in_time_test c past (opens (called_at c past p) p) m.0 (opens_test (called_at c past p) p m.1)
may_test c n past (OpenLater p) m = in_time_test c past (opens (called_at c past p) p) m.0 (opens_test (called_at c past p) p m.1)
may_test c n past (OpenFailed p) m = in_time_test c past (opens (called_at c past p) p) m.0 (opens_test (called_at c past p) p m.1)
may_test c n past (Listening d) m = in_time_test c past (listens_to (called_at c past d) d) m.0 (listens_test (called_at c past d) d m.1)
may_test c n past (ListenFailed d) m = in_time_test c past (listens_to (called_at c past d) d) m.0 (listens_test (called_at c past d) d m.1)
may_test c n past (Accepted p peer) m = in_time_test c past (accepts_for (called_at c past p) p) m.0 (accepts_for_test (called_at c past p) p m.1)
may_test c n past (NoPeer d) m = in_time_test c past (accepts_at (called_at c past d) d) m.0 (accepts_at_test (called_at c past d) d m.1)
may_test c n past (AcceptFailed d) m = in_time_test c past (accepts_at (called_at c past d) d) m.0 (accepts_at_test (called_at c past d) d m.1)
may_test c n past (Read p bytes) m = in_time_test c past (may_take c past p (length bytes)) m.0 (take_test c past p (length bytes) m.1)
may_test c n past (ReadEmpty p) m = in_time_test c past (may_take c past p 1) m.0 (take_test c past p 1 m.1)
may_test c n past (ReadEnd p) m = in_time_test c past (may_take c past p 1) m.0 (take_test c past p 1 m.1)
may_test c n past (ReadNotYet p) m = in_time_test c past (may_take c past p 1) m.0 (take_test c past p 1 m.1)
may_test c n past (ReadFault p) m = in_time_test c past (may_take c past p 1) m.0 (take_test c past p 1 m.1)
may_test c n past (Wrote p bytes) m = in_time_test c past (may_put c past p bytes) m.0 (put_test c past p bytes m.1)
may_test c n past (WriteNotYet p) m = in_time_test c past (may_offer c past p && nat_le 1 (backlog c past p.session (way_to p.side))) m.0 (try_write_test c past p m.1)
may_test c n past (WriteFault p) m = in_time_test c past (may_offer c past p && nat_le 1 (backlog c past p.session (way_to p.side))) m.0 (try_write_test c past p m.1)
may_test c n past (Shut p way) m = in_time_test c past (may_shut c past p way) m.0 (shut_test c past p way m.1)
may_test c n past (ShutFault p way) m = in_time_test c past (may_shut c past p way) m.0 (shut_test c past p way m.1)
may_test c n past (Closed q why) m = close_test c n past q why m
may_test c n past (Reaped p end) m = in_time_test c past (is_program (medium_of c p) && was_closed past p && not (was_reaped past p)) m.0 (reap_test c past p m.1)
may_test c n past (Note text) m = text_is (owed c past) text m
may_test c n past (NoteFault text) m = text_is (owed c past) text m

both_pass : (m : ℕ) (b : Bool) (k : ℕ) → m ≡ 0 → b ≡ true → first_of_two m b k ≡ 0
both_pass zero true k e f = refl
both_pass zero false k e f = refuted f
both_pass (suc m) b k e f = e

-- a legal journal has no first act that may not come
pub legal_test : (c : Config) (n : ℕ) (past : List Act) → Legal c n past → first_illegal c n past ≡ 0
legal_test c n [] legal = refl
legal_test c n (act ∷ past) legal = both_pass (first_illegal c n past) (may_come c n past act) (suc (length past)) (legal_test c n past legal.1) (may_test c n past act legal.0)

pub tests_right : (c : Config) (n : ℕ) (past : List Act) → (first_illegal c n past ≡ 0 → Legal c n past) × (Legal c n past → first_illegal c n past ≡ 0)
tests_right c n past = (legal_is c n past, legal_test c n past)

pub one_right : (c : Config) (n : ℕ) (past : List Act) (act : Act) → Legal c n past → (may_come c n past act ≡ true → May c n past act) × (May c n past act → may_come c n past act ≡ true)
one_right c n past act legal = (may_is c n past act legal, may_test c n past act)
