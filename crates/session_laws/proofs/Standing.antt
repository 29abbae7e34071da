-- Lists that say the same of a session leave what it wishes for and why it ends, while turns are left.
use Rattle.std.proofs.Common.{◌≡◌, refl, sym, ap, subst, ◌∙◌, ℕ, suc, ◌<◌, ◌≤◌, Bool, true, false, not, cond, ◌&&◌, ◌||◌, ◌==◌, nat_lt, List, [], ◌∷◌, Option, Some, None, is_some, is_none, arith, inl, inr}
use Rattle.std.specs.List.{list_any}
use Rattle.std.proofs.lemmas.Bool.{false≢true, true≢false, and_parts, false_from_ne_true}
use Rattle.relay_model.specs.declared.places.Way.{Way}
use Rattle.relay_model.specs.declared.places.Place.{Place}
use Rattle.relay_model.specs.declared.commands.Config.{Config}
use Rattle.relay_model.specs.declared.commands.Address.{Address}
use Rattle.relay_model.specs.declared.commands.Address.TheVariants as addresses
use Rattle.relay_model.specs.declared.commands.Target.{Target}
use Rattle.relay_model.specs.declared.commands.Target.TheVariants as targets
use Rattle.relay_model.specs.declared.places.Part.TheVariants.{Both}
use Rattle.relay_model.specs.declared.acts.Act.{Act}
use Rattle.relay_model.specs.declared.acts.Why.{Why}
use Rattle.relay_model.specs.declared.acts.Why.TheVariants as whys
use Rattle.relay_model.specs.declared.acts.Shut.{Shut as Shutting}
use Rattle.relay_model.specs.Places.{same_place}
use Rattle.relay_model.specs.Configs.{places, own_doors, things, input, output, is_program_door, program_door, has_fork, is_left, is_of, way_from, way_to, Fit, fork_is_placed, forks, listens, medium, medium_of, is_program, single_for}
use Rattle.relay_model.specs.History.{turns, holds_at, accept_failed}
use Rattle.relay_model.specs.Arming.{is_armed, armed_to_read, asked_to_accept}
use Rattle.relay_model.specs.Sessions.{numbers, admitted, live}
use Rattle.relay_model.specs.Openings.{first_call}
use Rattle.relay_model.specs.declared.calls.Call.{Call}
use Rattle.relay_model.specs.declared.calls.Call.TheVariants.{Nothing, TryAt, Open, Settle, Listen, Accept, Refuse, Serve}
use Rattle.relay_model.specs.Cause.{cause}
use Rattle.relay_model.specs.Calls.{call, door_call}
use Rattle.relay_model.specs.Rest.{is_going, owes_read, owes_write, must_pass, presses, AcceptTried, SessionRests}
use Rattle.relay_model.specs.May.{MayRead, MayOffer, MayTryWrite, MayShut, Licensed, by_cause, by_refusal, by_service, by_door, by_memory, by_turns}
use Rattle.relay_model.specs.Laws.{DoorTells}
use Rattle.relay_model.specs.Frames.{SameSession}
use Rattle.relay_laws.proofs.PlaceLemmas.{same_place_equal}
use Rattle.relay_laws.proofs.Admissions.{door_says}
use Rattle.relay_laws.proofs.OwnThings.{EachOwn, each_door, each_thing, among_own, input_own, output_own}
use Rattle.relay_laws.proofs.Apart.{moves_same, over_same, backlog_same, passing_same}
use Rattle.relay_laws.proofs.Alike.{Alike}
use Rattle.session_direction.specs.Directions.{WantsNothing}
use Rattle.relay_session.specs.declared.states.State.{State}
use Rattle.relay_session.specs.declared.sessions.Session.{Session}
use Rattle.relay_session.specs.declared.wishes.Wish.{Wish}
use Rattle.relay_session.specs.declared.wishes.Wish.TheVariants as wishes
use Rattle.relay_session.specs.Endings.{Quiet, Ends, EndingIs}
use Rattle.relay_session.specs.Lanes.{ReadsAt, Offers, ShutsAt}
use Rattle.relay_session.specs.States.{Closes, Sleeps, ReapsAt, Wished, ClosesFor, Stage}
use Rattle.relay_session.specs.Sessions.{Stands, Hears}
use Rattle.relay_session.proofs.Own.{NamesOwn, names_own}
use Rattle.relay_laws.proofs.Slept.{idle_way}
use Rattle.session_laws.proofs.Grounds.{ground_alike}

-- two lists say the same of a session that has begun in the other one, in which turns are left
pub record Like (c : Config) (n s : ℕ) (one other : List Act) : Type 0 where
  pub alike : Alike c s one other
  pub same : SameSession c s one other
  pub begun : s < numbers c other
  pub begun_here : s < numbers c one
  pub turns_left : turns other < n

-- ---- ends

failed_same : (one other : List Act) (ds : List Place) (c : Config) (s : ℕ) → Alike c s one other → EachOwn c s ds → list_any (accept_failed one) ds ≡ list_any (accept_failed other) ds
failed_same one other [] c s h own = refl
failed_same one other (d ∷ ds) c s h own = let x = (h.base.own d own.0 own.1).accept_failed_same in let y = failed_same one other ds c s h own.2 in λ i. x i || y i

quiet_alike : (c : Config) (s : ℕ) (one other : List Act) → Alike c s one other → Quiet c other s → Quiet c one s
quiet_alike c s one other h q =
    let d = h.base.door_same in
    let x = failed_same one other (own_doors c s) c s h (each_door c s) in
    record {
      unclosed = h.base.closed_same ∙ q.unclosed;
      remembered = h.base.memory_same ∙ q.remembered;
      unstopped = h.base.stop_same ∙ q.unstopped;
      accepts = (λ i. d i || x i) ∙ q.accepts;
    }

ends_alike : (c : Config) (n s : ℕ) (one other : List Act) (why : Why) → Like c n s one other → Ends c n other s why → Ends c n one s why
ends_alike c n s one other why h (inl e) = inl (h.same.cause_same ∙ e)
ends_alike c n s one other why h (inr (inl e)) = inr (inl (e.0, h.alike.base.closed_same ∙ e.1))
ends_alike c n s one other why h (inr (inr e)) = let t = e.1 in let l = h.turns_left in absurd (omega (arith, t, l))

ending_alike : (c : Config) (n s : ℕ) (one other : List Act) (end : Option Why) → Like c n s one other → EndingIs c n other s end → EndingIs c n one s end
ending_alike c n s one other None h e = (quiet_alike c s one other h.alike e.0, h.same.cause_same ∙ e.1)
ending_alike c n s one other (Some why) h e = ends_alike c n s one other why h e

-- ---- transfers

-- a place of the session's own
pub record IsOwn (c : Config) (s : ℕ) (p : Place) : Type 0 where
  pub at : p.session ≡ s
  pub apart : is_program_door c p ≡ false

moving_alike : (c : Config) (n s : ℕ) (one other : List Act) (w : Way) → Like c n s one other → is_going c one s w ≡ is_going c other s w
moving_alike c n s one other w h = moves_same c s one other h.alike.base h.same.running_same w

-- a place that is an input or an output of its session is no door
inlet_own : (c : Config) (p : Place) (w : Way) → same_place p (input c p.session w) ≡ true → is_program_door c p ≡ false
inlet_own c p w e = ap (is_program_door c) (same_place_equal p (input c p.session w) e) ∙ input_own c p.session w

outlet_own : (c : Config) (p : Place) (w : Way) → same_place p (output c p.session w) ≡ true → is_program_door c p ≡ false
outlet_own c p w e = ap (is_program_door c) (same_place_equal p (output c p.session w) e) ∙ output_own c p.session w

read_alike : (c : Config) (n : ℕ) (one other : List Act) (p : Place) (k : ℕ) → Like c n p.session one other → MayRead c other p k → MayRead c one p k
read_alike c n one other p k h m =
    let w = way_from p.side in
    let a = m.asks in
    let d = inlet_own c p w a.is_input in
    let t = h.alike.base.own p refl d in
    let x = t.read_arming_same in
    let y = h.alike.base.now_same in
    let armed : armed_to_read one p ≡ armed_to_read other p = λ i. is_armed (x i) (y i) in
    record {
      asks = record {
        is_input = a.is_input;
        moving = moving_alike c n p.session one other w h ∙ a.moving;
        not_passed = ap is_some (passing_same c p.session one other h.alike.base w) ∙ a.not_passed;
        not_over = over_same c p.session one other h.alike.base p refl d ∙ a.not_over;
        armed = armed ∙ a.armed;
      };
      some_bytes = m.some_bytes;
      in_room = subst (λ (z : ℕ). k ≤ z) (sym (idle_way c p.session one other h.alike w).room_same) m.in_room;
    }

offer_alike : (c : Config) (n : ℕ) (one other : List Act) (p : Place) → Like c n p.session one other → MayOffer c other p → MayOffer c one p
offer_alike c n one other p h a =
    let w = way_to p.side in
    let d = outlet_own c p w a.is_output in
    record {
      is_output = a.is_output;
      moving = moving_alike c n p.session one other w h ∙ a.moving;
      not_passed = ap is_some (passing_same c p.session one other h.alike.base w) ∙ a.not_passed;
      armed = (h.alike.base.own p refl d).armed_to_write_same ∙ a.armed;
    }

try_alike : (c : Config) (n : ℕ) (one other : List Act) (p : Place) → Like c n p.session one other → MayTryWrite c other p → MayTryWrite c one p
try_alike c n one other p h m = record { offers = offer_alike c n one other p h m.offers; waiting = subst (λ (z : ℕ). 1 ≤ z) (sym (backlog_same c p.session one other h.alike.base (way_to p.side))) m.waiting }

shut_alike : (c : Config) (n : ℕ) (one other : List Act) (p : Place) (way : Shutting) → Like c n p.session one other → MayShut c other p way → MayShut c one p way
shut_alike c n one other p way h m =
    let w = way_to p.side in
    record {
      is_output = m.is_output;
      moving = moving_alike c n p.session one other w h ∙ m.moving;
      spent = (idle_way c p.session one other h.alike w).spent_same ∙ m.spent;
      not_passed = ap is_some (passing_same c p.session one other h.alike.base w) ∙ m.not_passed;
      is_how = m.is_how;
    }

like_at : (c : Config) (n s k : ℕ) (one other : List Act) → k ≡ s → Like c n s one other → Like c n k one other
like_at c n s k one other e h = subst (λ (x : ℕ). Like c n x one other) (sym e) h

reads_alike : (c : Config) (n s : ℕ) (one other : List Act) (p : Place) (k : ℕ) → Like c n s one other → ReadsAt c other s p k → ReadsAt c one s p k
reads_alike c n s one other p k h r =
    record {
      own = r.own;
      may = read_alike c n one other p k (like_at c n s p.session one other r.own h) r.may;
      size = r.size ∙ sym (idle_way c s one other h.alike (way_from p.side)).room_same;
    }

offers_alike : (c : Config) (n s : ℕ) (one other : List Act) (p : Place) (b : Bool) → Like c n s one other → Offers c other s p b → Offers c one s p b
offers_alike c n s one other p b h r =
    record {
      own = r.own;
      may = try_alike c n one other p (like_at c n s p.session one other r.own h) r.may;
      keeps = r.keeps;
    }

shuts_alike : (c : Config) (n s : ℕ) (one other : List Act) (p : Place) (way : Shutting) → Like c n s one other → ShutsAt c other s p way → ShutsAt c one s p way
shuts_alike c n s one other p way h r = record { own = r.own; may = shut_alike c n one other p way (like_at c n s p.session one other r.own h) r.may }

-- ---- closings

-- the program door calls for nothing at a thing of a session that has begun
not_refused : (c : Config) (s : ℕ) (past : List Act) (q : Place) → has_fork c ≡ true → s < numbers c past → q.session ≡ s → door_call c past ≡ Refuse q → ⊥
not_refused c s past q f b e k =
    let t : DoorTells c past (Refuse q) = subst (DoorTells c past) k (door_says c past) in
    let x : q.session ≡ admitted c past = ap (λ y. y.session) t in
    let l : s < admitted c past = subst (λ (y : Bool). s < cond y (admitted c past) 1) f b in
    omega (arith, x, e, l)

not_served : (c : Config) (past : List Act) (q : Place) → has_fork c ≡ true → is_program_door c q ≡ false → door_call c past ≡ Serve q → ⊥
not_served c past q f d k =
    let t : DoorTells c past (Serve q) = subst (DoorTells c past) k (door_says c past) in
    true≢false (sym (λ i. same_place (t.0 i) program_door && f i) ∙ d)

licensed_alike : (c : Config) (n s : ℕ) (one other : List Act) (q : Place) (why : Why) → Like c n s one other → IsOwn c s q → Licensed c n other q why → Licensed c n one q why
licensed_alike c n s one other q why h o (by_cause d e) = by_cause d ((like_at c n s q.session one other o.at h).same.cause_same ∙ e)
licensed_alike c n s one other q why h o (by_refusal e k) = by_refusal e (go (is_left q && has_fork c) refl k)
  where
    go : (b : Bool) → (is_left q && has_fork c) ≡ b → cond b (door_call c other) (call c other q.session) ≡ Refuse q → cond b (door_call c one) (call c one q.session) ≡ Refuse q
    go true f x = absurd (not_refused c s other q (and_parts (is_left q) (has_fork c) f).1 h.begun o.at x)
    go false f x = (like_at c n s q.session one other o.at h).same.call_same ∙ x
licensed_alike c n s one other q why h o (by_service e k) = by_service e (go (is_left q && has_fork c) refl k)
  where
    go : (b : Bool) → (is_left q && has_fork c) ≡ b → cond b (door_call c other) (call c other q.session) ≡ Serve q → cond b (door_call c one) (call c one q.session) ≡ Serve q
    go true f x = absurd (not_served c other q (and_parts (is_left q) (has_fork c) f).1 o.apart x)
    go false f x = (like_at c n s q.session one other o.at h).same.call_same ∙ x
licensed_alike c n s one other q why h o (by_door d e) = absurd (true≢false (sym d ∙ o.apart))
licensed_alike c n s one other q why h o (by_memory e (inl d)) = absurd (true≢false (sym d ∙ o.apart))
licensed_alike c n s one other q why h o (by_memory e (inr d)) = by_memory e (inr ((like_at c n s q.session one other o.at h).alike.base.closed_same ∙ d))
licensed_alike c n s one other q why h o (by_turns e t r) = let l = h.turns_left in absurd (omega (arith, t, l))

of_own : (c : Config) (s : ℕ) (q : Place) → is_of c s q ≡ true → IsOwn c s q
of_own c s q e = let a = among_own c s q (things c s) (each_thing c s) e in record { at = a.0; apart = a.1 }

closes_alike : (c : Config) (n s : ℕ) (one other : List Act) (q : Place) (why : Why) → Like c n s one other → Closes c n other s q why → Closes c n one s q why
closes_alike c n s one other q why h r =
    let o = of_own c s q r.own in
    record { is_held = ap holds_at (h.alike.base.own q o.at o.apart).stage_same ∙ r.is_held; own = r.own; licensed = licensed_alike c n s one other q why h o r.licensed }

-- ---- rest

-- what is called for names things of the session
call_own : (c : Config) (past : List Act) (s : ℕ) → NamesOwn c s (call c past s)
call_own c past s = go (live c past s && is_none (cause c past s))
  where
    go : (b : Bool) → NamesOwn c s (cond b (first_call c past (places c s)) Nothing)
    go true = names_own c past s
    go false = tt

tried_alike : (c : Config) (n s : ℕ) (one other : List Act) (k : Call) → Like c n s one other → NamesOwn c s k → AcceptTried c other k → AcceptTried c one k
tried_alike c n s one other (Accept d p) h o e = let w = of_own c s d o.0.of in h.alike.accepted d w.at w.apart ∙ e
tried_alike c n s one other Nothing h o e = tt
tried_alike c n s one other (TryAt m) h o e = tt
tried_alike c n s one other (Open p) h o e = tt
tried_alike c n s one other (Settle p) h o e = tt
tried_alike c n s one other (Listen d) h o e = tt
tried_alike c n s one other (Refuse p) h o e = tt
tried_alike c n s one other (Serve d) h o e = tt

armed_alike : (c : Config) (n s : ℕ) (one other : List Act) (w : Way) → Like c n s one other → armed_to_read one (input c s w) ≡ armed_to_read other (input c s w)
armed_alike c n s one other w h =
    let x = (h.alike.base.own (input c s w) refl (input_own c s w)).read_arming_same in
    let y = h.alike.base.now_same in
    λ i. is_armed (x i) (y i)

reading_alike : (c : Config) (n s : ℕ) (one other : List Act) (w : Way) → Like c n s one other → owes_read c one s w ≡ owes_read c other s w
reading_alike c n s one other w h =
    let m = moving_alike c n s one other w h in
    let a = armed_alike c n s one other w h in
    let v = over_same c s one other h.alike.base (input c s w) refl (input_own c s w) in
    let k = backlog_same c s one other h.alike.base w in
    λ i. m i && a i && not (v i) && k i == 0

writing_alike : (c : Config) (n s : ℕ) (one other : List Act) (w : Way) → Like c n s one other → owes_write c one s w ≡ owes_write c other s w
writing_alike c n s one other w h =
    let m = moving_alike c n s one other w h in
    let a = (h.alike.base.own (output c s w) refl (output_own c s w)).armed_to_write_same in
    let k = backlog_same c s one other h.alike.base w in
    λ i. m i && a i && nat_lt 0 (k i)

passing_alike : (c : Config) (n s : ℕ) (one other : List Act) (w : Way) → Like c n s one other → must_pass c one s w ≡ must_pass c other s w
passing_alike c n s one other w h =
    let m = moving_alike c n s one other w h in
    let v = (idle_way c s one other h.alike w).spent_same in
    let p = passing_same c s one other h.alike.base w in
    λ i. m i && v i && not (is_some (p i))

pub rests_alike : (c : Config) (n s : ℕ) (one other : List Act) → Like c n s one other → SessionRests c other s → SessionRests c one s
rests_alike c n s one other h r =
    let k = h.same.call_same in
    record {
      ended = λ x. h.same.holds_same ∙ r.ended (sym (ap is_some h.same.cause_same) ∙ x);
      no_call = ap presses k ∙ r.no_call;
      read_tried = λ w x. (h.alike.base.own (input c s w) refl (input_own c s w)).asked_to_read_same ∙ r.read_tried w (sym (reading_alike c n s one other w h) ∙ x);
      write_tried = λ w x. h.alike.written w ∙ r.write_tried w (sym (writing_alike c n s one other w h) ∙ x);
      passed_on = λ w. passing_alike c n s one other w h ∙ r.passed_on w;
      accept_tried = subst (AcceptTried c one) (sym k) (tried_alike c n s one other (call c other s) h (call_own c other s) r.accept_tried);
    }

wants_alike : (c : Config) (n s : ℕ) (one other : List Act) (w : Way) → Like c n s one other → WantsNothing c other s w → WantsNothing c one s w
wants_alike c n s one other w h r =
    let i = h.alike.base.own (input c s w) refl (input_own c s w) in
    let k = idle_way c s one other h.alike w in
    record {
      read_tried = λ x. i.asked_to_read_same ∙ r.read_tried (sym (reading_alike c n s one other w h) ∙ x);
      write_tried = λ x. h.alike.written w ∙ r.write_tried (sym (writing_alike c n s one other w h) ∙ x);
      passed_on = passing_alike c n s one other w h ∙ r.passed_on;
      read_ahead = λ m a v b o.
          i.asked_to_read_same
          ∙ r.read_ahead (sym (moving_alike c n s one other w h) ∙ m) (sym (armed_alike c n s one other w h) ∙ a) (sym (over_same c s one other h.alike.base (input c s w) refl (input_own c s w)) ∙ v)
          (subst (λ (z : ℕ). z ≤ c.block) k.backlog_same b) (subst (λ (z : ℕ). 1 ≤ z) k.room_same o);
    }

sleeps_alike : (c : Config) (n s : ℕ) (one other : List Act) (until : Option ℕ) → Like c n s one other → Sleeps c other s until → Sleeps c one s until
sleeps_alike c n s one other until h r =
    let w = h.same.session_work_same in
    let t = h.alike.base.now_same in
    let m = h.same.session_moment_same in
    record {
      rests = rests_alike c n s one other h r.rests;
      until_is = r.until_is ∙ sym (λ i. cond (w i) (Some (t i)) (m i));
      read_ahead = λ v x. wants_alike c n s one other v h (r.read_ahead v (sym h.same.running_same ∙ x));
    }

reaps_alike : (c : Config) (n s : ℕ) (one other : List Act) (p : Place) → Like c n s one other → is_program_door c p ≡ false → ReapsAt c other s p → ReapsAt c one s p
reaps_alike c n s one other p h d r =
    let a = h.alike.base.own p r.own d in
    record { own = r.own; among = r.among; may = record { is_child = r.may.is_child; closed = a.was_closed_same ∙ r.may.closed; first = a.was_reaped_same ∙ r.may.first } }

-- the program door is no child
no_program : (t : Target) → listens t ≡ true → is_program (medium t) ≡ false
no_program (targets.Exec words) e = absurd (false≢true e)
no_program (targets.System command) e = absurd (false≢true e)
no_program t e = refl

forked : (f l : Bool) → (not f || l) ≡ true → f ≡ true → l ≡ true
forked true l e g = e
forked false l e g = absurd (false≢true g)

door_no_child : (left right : Address) → fork_is_placed left right ≡ true → forks left ≡ true → is_program (medium (single_for left Both).target) ≡ false
door_no_child (addresses.One single) right e f = no_program single.target (forked single.options.sessions.fork (listens single.target) (and_parts (not single.options.sessions.fork || listens single.target) _ e).0 f)
door_no_child (addresses.Two reading writing) right e f = absurd (false≢true f)

pub child_own : (c : Config) (p : Place) → Fit c → is_program (medium_of c p) ≡ true → is_program_door c p ≡ false
child_own c p fit e =
    false_from_ne_true (is_program_door c p)
    (λ d. let a = and_parts (same_place p program_door) (has_fork c) d in
    true≢false (sym e ∙ ap (λ (x : Place). is_program (medium_of c x)) (same_place_equal p program_door a.0) ∙ door_no_child c.left c.right fit.fork a.1))

-- ---- wishes

accept_alike : (c : Config) (n s : ℕ) (one other : List Act) (d p : Place) → Like c n s one other → call c other s ≡ Accept d p → asked_to_accept c other d ≡ false → asked_to_accept c one d ≡ false
accept_alike c n s one other d p h k e =
    let o : NamesOwn c s (Accept d p) = subst (NamesOwn c s) k (call_own c other s) in
    let w = of_own c s d o.0.of in
    h.alike.accepted d w.at w.apart ∙ e

wished_alike : (c : Config) (n s : ℕ) (one other : List Act) (wish : Wish) → Fit c → Like c n s one other → Wished c n other s wish → Wished c n one s wish
wished_alike c n s one other (wishes.Open p) fit h r = h.same.call_same ∙ r
wished_alike c n s one other (wishes.Settle p) fit h r = h.same.call_same ∙ r
wished_alike c n s one other (wishes.Listen d) fit h r = h.same.call_same ∙ r
wished_alike c n s one other (wishes.Accept d p) fit h r = (h.same.call_same ∙ r.0, accept_alike c n s one other d p h r.0 r.1)
wished_alike c n s one other (wishes.Read p k) fit h r = reads_alike c n s one other p k h r
wished_alike c n s one other (wishes.Write p) fit h r = offers_alike c n s one other p false h r
wished_alike c n s one other (wishes.Send p) fit h r = offers_alike c n s one other p true h r
wished_alike c n s one other (wishes.Shut p way) fit h r = shuts_alike c n s one other p way h r
wished_alike c n s one other (wishes.Close q why) fit h r = closes_alike c n s one other q why h r
wished_alike c n s one other (wishes.Reap p) fit h r = reaps_alike c n s one other p h (child_own c p fit r.may.is_child) r
wished_alike c n s one other (wishes.Sleep until) fit h r = sleeps_alike c n s one other until h r
wished_alike c n s one other (wishes.Done why) fit h r = record { nothing_held = h.same.holds_same ∙ r.nothing_held; ends = ends_alike c n s one other why h r.ends }

closing_alike : (c : Config) (n s : ℕ) (one other : List Act) (end : Option Why) (q : Place) (why : Why) → Like c n s one other → ClosesFor c other s end q why → ClosesFor c one s end q why
closing_alike c n s one other None q why h (inl e) = inl (e.0, h.same.call_same ∙ e.1)
closing_alike c n s one other None q why h (inr e) = inr (e.0, h.same.call_same ∙ e.1)
closing_alike c n s one other (Some end) q why h e = e

stage_alike : (c : Config) (n s : ℕ) (one other : List Act) (st : State) (wish : Wish) → Like c n s one other → Stage c other s st wish → Stage c one s st wish
stage_alike c n s one other st (wishes.Close q why) h e = closing_alike c n s one other st.ending q why h e
stage_alike c n s one other st (wishes.Reap p) h e = e
stage_alike c n s one other st (wishes.Done why) h e = e
stage_alike c n s one other st (wishes.Open p) h e = e
stage_alike c n s one other st (wishes.Settle p) h e = e
stage_alike c n s one other st (wishes.Listen d) h e = e
stage_alike c n s one other st (wishes.Accept d p) h e = e
stage_alike c n s one other st (wishes.Read p k) h e = e
stage_alike c n s one other st (wishes.Write p) h e = e
stage_alike c n s one other st (wishes.Send p) h e = e
stage_alike c n s one other st (wishes.Shut p way) h e = e
stage_alike c n s one other st (wishes.Sleep until) h e = e

-- ---- sessions

pub stands_alike : (c : Config) (n s : ℕ) (one other : List Act) (x : Session) → Like c n s one other → Stands c n other s x → Stands c n one s x
stands_alike c n s one other x h r = record {
  fields = record { ground = ground_alike c s one other x.state h.begun_here h.alike r.fields.ground; ending_is = ending_alike c n s one other x.state.ending h r.fields.ending_is };
  allowed = (wished_alike c n s one other x.wish r.fields.ground.fit h r.allowed.0, stage_alike c n s one other x.state x.wish h r.allowed.1);
}

-- ---- a session that knows its cause stands so whatever the limit of turns

licensed_again : (c : Config) (n m s : ℕ) (past : List Act) (q : Place) (why : Why) → IsOwn c s q → (why ≡ whys.Stopped → cause c past s ≡ Some why) → Licensed c n past q why → Licensed c m past q why
licensed_again c n m s past q why o f (by_cause d e) = by_cause d e
licensed_again c n m s past q why o f (by_refusal e k) = by_refusal e k
licensed_again c n m s past q why o f (by_service e k) = by_service e k
licensed_again c n m s past q why o f (by_door d e) = by_door d e
licensed_again c n m s past q why o f (by_memory e d) = by_memory e d
licensed_again c n m s past q why o f (by_turns e t r) = by_cause o.apart (ap (cause c past) o.at ∙ f e)

-- a closing for a stop is one of a session that has ended
stopped_for : (c : Config) (past : List Act) (s : ℕ) (end : Option Why) (q : Place) (why : Why) → end ≡ cause c past s → ClosesFor c past s end q why → why ≡ whys.Stopped → cause c past s ≡ Some why
stopped_for c past s None q why e (inl k) t = let x : whys.Stopped ≡ whys.Refused = sym t ∙ k.0 in let y : ⊥ = cc in absurd y
stopped_for c past s None q why e (inr k) t = let x : whys.Stopped ≡ whys.Served = sym t ∙ k.0 in let y : ⊥ = cc in absurd y
stopped_for c past s (Some end) q why e k t = sym e ∙ ap Some k

wished_again : (c : Config) (n m s : ℕ) (past : List Act) (st : State) (wish : Wish) → st.ending ≡ cause c past s → Stage c past s st wish → Wished c n past s wish → Wished c m past s wish
wished_again c n m s past st (wishes.Open p) e g r = r
wished_again c n m s past st (wishes.Settle p) e g r = r
wished_again c n m s past st (wishes.Listen d) e g r = r
wished_again c n m s past st (wishes.Accept d p) e g r = r
wished_again c n m s past st (wishes.Read p k) e g r = r
wished_again c n m s past st (wishes.Write p) e g r = r
wished_again c n m s past st (wishes.Send p) e g r = r
wished_again c n m s past st (wishes.Shut p way) e g r = r
wished_again c n m s past st (wishes.Close q why) e g r = record { is_held = r.is_held; own = r.own; licensed = licensed_again c n m s past q why (of_own c s q r.own) (stopped_for c past s st.ending q why e g) r.licensed }
wished_again c n m s past st (wishes.Reap p) e g r = r
wished_again c n m s past st (wishes.Sleep until) e g r = r
wished_again c n m s past st (wishes.Done why) e g r = record { nothing_held = r.nothing_held; ends = inl (sym e ∙ g.0) }

ending_again : (c : Config) (n m s : ℕ) (past : List Act) (end : Option Why) → end ≡ cause c past s → EndingIs c n past s end → EndingIs c m past s end
ending_again c n m s past None e g = g
ending_again c n m s past (Some why) e g = inl (sym e)

stands_again : (c : Config) (n m s : ℕ) (past : List Act) (x : Session) → x.state.ending ≡ cause c past s → Stands c n past s x → Stands c m past s x
stands_again c n m s past x e r = record {
  fields = record { ground = r.fields.ground; ending_is = ending_again c n m s past x.state.ending e r.fields.ending_is };
  allowed = (wished_again c n m s past x.state x.wish e r.allowed.1 r.allowed.0, r.allowed.1);
}

-- so it needs no turns left
pub stands_along : (c : Config) (n s : ℕ) (one other : List Act) (x : Session) → Alike c s one other → SameSession c s one other → s < numbers c one → s < numbers c other → x.state.ending ≡ cause c other s → Stands c n other s x → Stands c n one s x
stands_along c n s one other x a k d b e r =
    stands_again c (suc (turns other)) n s one x (e ∙ sym k.cause_same)
    (stands_alike c (suc (turns other)) s one other x (record { alike = a; same = k; begun = b; begun_here = d; turns_left = omega arith }) (stands_again c n (suc (turns other)) s other x e r))

pub hears_along : (c : Config) (n s : ℕ) (one other : List Act) (x : Session) → Alike c s one other → SameSession c s one other → s < numbers c one → s < numbers c other → Hears c n other s x → Hears c n one s x
hears_along c n s one other x a k d b r = record {
  stands = stands_along c n s one other x a k d b r.heeds.ending_is r.stands;
  heeds = record { ground = ground_alike c s one other x.state d a r.heeds.ground; quiet = quiet_alike c s one other a r.heeds.quiet; ending_is = r.heeds.ending_is ∙ sym k.cause_same };
}
