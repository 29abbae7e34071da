-- No act is at a thing of a session that hasn't begun.
use Rattle.std.proofs.Common.{◌≡◌, refl, sym, ap, subst, ◌∙◌, ℕ, ◌<◌, ◌≤◌, Bool, true, false, not, cond, ◌&&◌, ◌||◌, ◌==◌, nat_lt, List, [], ◌∷◌, ◌++◌, map, Option, Some, None, is_some, arith, inl, inr, ◌⊎◌}
use Rattle.std.specs.List.{list_any}
use Rattle.std.proofs.lemmas.Bool.{false≢true, true≢false, and_parts, or_parts, or_from, le-ltb, false_from_ne_true, cases_Bool, cases_eq}
use Rattle.relay_model.specs.declared.places.Half.TheVariants.{ToRead, ToWrite}
use Rattle.relay_model.specs.declared.places.Way.{Way}
use Rattle.relay_model.specs.declared.places.Place.{Place}
use Rattle.relay_model.specs.declared.commands.Config.{Config}
use Rattle.relay_model.specs.declared.acts.Act.{Act}
use Rattle.relay_model.specs.declared.acts.Act.TheVariants.{Turn, Opened, OpenLater, OpenFailed, Listening, ListenFailed, Accepted, NoPeer, AcceptFailed, Read, ReadEmpty, ReadEnd, ReadNotYet, ReadFault, Wrote, WriteNotYet, WriteFault, Shut, ShutFault, Closed, Reaped, Note, NoteFault}
use Rattle.relay_model.specs.Places.{same_place, same_side, same_part, same_bool}
use Rattle.relay_model.specs.Readiness.{Listed, names}
use Rattle.relay_model.specs.Choices.{one_more}
use Rattle.relay_model.specs.Configs.{has_fork, is_left, program_door, is_program_door, way_from, way_to, medium_of, is_program, accepting_door, input}
use Rattle.relay_model.specs.Places.{door_of}
use Rattle.relay_model.specs.History.{failures, woken, accept_failed, was_reaped, got, put, sent, met_end, met_empty, shut_at, read_fault_at, write_fault_at}
use Rattle.relay_model.specs.Arming.{armed_to_accept, asked_to_read, asked_to_write, asked_to_accept}
use Rattle.relay_model.specs.Transfers.{due_pieces}
use Rattle.relay_model.specs.History.{held, holds_at, was_closed}
use Rattle.relay_model.specs.declared.armings.Arming.TheVariants.{Armed}
use Rattle.relay_model.specs.Sessions.{admitted, is_admission, live, holds, next_place, first_part}
use Rattle.relay_model.specs.declared.calls.Call.TheVariants.{Nothing, Accept}
use Rattle.relay_model.specs.Calls.{call, called_at, door_call}
use Rattle.relay_model.specs.Rest.{is_going}
use Rattle.relay_model.specs.May.{Legal}
use Rattle.relay_model.specs.Laws.{DoorTells}
use Rattle.relay_model.specs.Frames.{is_at, is_turn, reaps, SameAt}
use Rattle.relay_laws.proofs.PlaceLemmas.{same_place_equal, same_place_self}
use Rattle.relay_laws.proofs.Elsewhere.{elsewhere}
use Rattle.relay_laws.proofs.Holdings.{moves_running}
use Rattle.relay_laws.proofs.Admissions.{door_says, call_of_dead, no_open, no_listen}
use Rattle.relay_model.specs.declared.places.Half.{Half}
use Rattle.relay_model.specs.declared.places.Side.TheVariants.{Left, Right}
use Rattle.relay_model.specs.declared.places.Part.TheVariants.{Reading, Writing}
use Rattle.relay_model.specs.declared.commands.Address.{Address}
use Rattle.relay_model.specs.declared.commands.Address.TheVariants as addresses
use Rattle.relay_model.specs.declared.commands.Ways.{Ways}
use Rattle.relay_model.specs.declared.commands.Ways.TheVariants as ways
use Rattle.relay_model.specs.declared.acts.Why.{Why}
use Rattle.relay_model.specs.declared.acts.Why.TheVariants as whys
use Rattle.relay_model.specs.Choices.{only_if, first_some}
use Rattle.relay_model.specs.Configs.{parts, parts_of, place_at, own_doors}
use Rattle.relay_model.specs.History.{now, stage, stop_said, memory_said}
use Rattle.relay_model.specs.Openings.{ready}
use Rattle.relay_model.specs.declared.calls.Call.TheVariants.{Refuse}
use Rattle.relay_model.specs.Moments.{closing_moment, idle_moment, reached}
use Rattle.relay_model.specs.Cause.{cause, closed_why, listening_failed, opening_failed, faulted, finished}
use Rattle.relay_model.specs.Calls.{door_cut, program_door_call}
use Rattle.relay_model.specs.Rest.{Rest, presses}
use Rattle.relay_laws.specs.Births.{home, is_named_by, works_at, OnlyHeldWereNamed}

-- ---- what no act was at

at_start : (p : Place) → SameAt p [] []
at_start p = record {
  stage_same = refl;
  failures_same = refl;
  woken_same = refl;
  accept_failed_same = refl;
  was_closed_same = refl;
  was_reaped_same = refl;
  reaped_since_same = refl;
  got_same = refl;
  put_same = refl;
  sent_same = refl;
  met_end_same = refl;
  met_empty_same = refl;
  shut_at_same = refl;
  read_fault_at_same = refl;
  write_fault_at_same = refl;
  read_arming_same = refl;
  armed_to_write_same = refl;
  armed_to_accept_same = refl;
  asked_to_read_same = refl;
}

unnamed : (p : Place) (until : Option ℕ) (at : ℕ) (ready : Listed) (stop : Bool) (past : List Act) → names ready.entries p ToRead ≡ false → names ready.entries p ToWrite ≡ false → SameAt p past [] → SameAt p (Turn until at ready stop ∷ past) []
unnamed p until at ready stop past r w h =
    let k = h.woken_same in
    let a = h.read_arming_same in
    let b = h.armed_to_write_same in
    let d = h.armed_to_accept_same in
    record {
      stage_same = h.stage_same;
      failures_same = h.failures_same;
      woken_same = λ i. r i || w i || k i;
      accept_failed_same = h.accept_failed_same;
      was_closed_same = h.was_closed_same;
      was_reaped_same = h.was_reaped_same;
      reaped_since_same = h.reaped_since_same;
      got_same = h.got_same;
      put_same = h.put_same;
      sent_same = h.sent_same;
      met_end_same = h.met_end_same;
      met_empty_same = h.met_empty_same;
      shut_at_same = h.shut_at_same;
      read_fault_at_same = h.read_fault_at_same;
      write_fault_at_same = h.write_fault_at_same;
      read_arming_same = λ i. cond (r i) Armed (a i);
      armed_to_write_same = λ i. w i || b i;
      armed_to_accept_same = λ i. r i || d i;
      asked_to_read_same = refl;
    }

at_joined : (p : Place) (a b d : List Act) → SameAt p a b → SameAt p b d → SameAt p a d
at_joined p a b d h k = record {
  stage_same = h.stage_same ∙ k.stage_same;
  failures_same = h.failures_same ∙ k.failures_same;
  woken_same = h.woken_same ∙ k.woken_same;
  accept_failed_same = h.accept_failed_same ∙ k.accept_failed_same;
  was_closed_same = h.was_closed_same ∙ k.was_closed_same;
  was_reaped_same = h.was_reaped_same ∙ k.was_reaped_same;
  reaped_since_same = h.reaped_since_same ∙ k.reaped_since_same;
  got_same = h.got_same ∙ k.got_same;
  put_same = h.put_same ∙ k.put_same;
  sent_same = h.sent_same ∙ k.sent_same;
  met_end_same = h.met_end_same ∙ k.met_end_same;
  met_empty_same = h.met_empty_same ∙ k.met_empty_same;
  shut_at_same = h.shut_at_same ∙ k.shut_at_same;
  read_fault_at_same = h.read_fault_at_same ∙ k.read_fault_at_same;
  write_fault_at_same = h.write_fault_at_same ∙ k.write_fault_at_same;
  read_arming_same = h.read_arming_same ∙ k.read_arming_same;
  armed_to_write_same = h.armed_to_write_same ∙ k.armed_to_write_same;
  armed_to_accept_same = h.armed_to_accept_same ∙ k.armed_to_accept_same;
  asked_to_read_same = h.asked_to_read_same ∙ k.asked_to_read_same;
}

new_step : (act : Act) (past : List Act) (p : Place) → is_at act p ≡ false → is_named_by p act ≡ false → SameAt p past [] → SameAt p (act ∷ past) []
new_step (Turn until at ready stop) past p e u h = let t = or_parts (names ready.entries p ToRead) (names ready.entries p ToWrite) u in unnamed p until at ready stop past t.0 t.1 h
new_step act past p e u h = at_joined p (act ∷ past) past [] (elsewhere act past p refl e) h

pub new : (past : List Act) (p : Place) → list_any (λ act. is_at act p) past ≡ false → list_any (is_named_by p) past ≡ false → SameAt p past []
new [] p e u = at_start p
new (act ∷ past) p e u =
    let a = or_parts (is_at act p) (list_any (λ act. is_at act p) past) e in
    let b = or_parts (is_named_by p act) (list_any (is_named_by p) past) u in
    new_step act past p a.0 b.0 (new past p a.1 b.1)

-- turns aside, it is free and was never closed
pub record Spared (past : List Act) (p : Place) : Type 0 where
  pub free : held past p ≡ false
  pub unclosed : was_closed past p ≡ false

spared_step : (act : Act) (past : List Act) (p : Place) → is_at act p ≡ false → Spared past p → Spared (act ∷ past) p
spared_step (Turn until at ready stop) past p e h = record { free = h.free; unclosed = h.unclosed }
spared_step act past p e h = let k = elsewhere act past p refl e in record { free = ap holds_at k.stage_same ∙ h.free; unclosed = k.was_closed_same ∙ h.unclosed }

spared : (past : List Act) (p : Place) → list_any (λ act. is_at act p) past ≡ false → Spared past p
spared [] p e = record { free = refl; unclosed = refl }
spared (act ∷ past) p e = let a = or_parts (is_at act p) (list_any (λ act. is_at act p) past) e in spared_step act past p a.0 (spared past p a.1)

-- ---- a session that hasn't begun

-- a thing of such a session
record Ahead (c : Config) (past : List Act) (p : Place) : Type 0 where
  fork : has_fork c ≡ true
  beyond : admitted c past ≤ p.session
  inside : is_program_door c p ≡ false

-- the next peer isn't accepted for it
abbrev IsAway : Config → List Act → Place → Type 0
IsAway c past p = p ≡ next_place c past → ⊥

away_from : (c : Config) (past : List Act) (p : Place) → same_place p (home c p.session) ≡ false → IsAway c past p
away_from c past p a e =
    let k : p ≡ home c p.session = e ∙ ap (λ (y : Place). home c y.session) (sym e) in
    true≢false (sym (same_place_self p) ∙ ap (same_place p) k ∙ a)

away_ahead : (c : Config) (past : List Act) (p : Place) → admitted c past < p.session → IsAway c past p
away_ahead c past p l e = let k : p.session ≡ admitted c past = ap (λ (y : Place). y.session) e in omega (arith, l, k)

dead : (f : Bool) (s n : ℕ) (x : Bool) → f ≡ true → n ≤ s → cond f (nat_lt s n && x) (s == 0) ≡ false
dead true s n x e l = ap (λ b. b && x) (le-ltb s n l)
dead false s n x e l = absurd (false≢true e)

pending_session : (c : Config) (past : List Act) (p : Place) → Ahead c past p → live c past p.session ≡ false
pending_session c past p h = dead (has_fork c) p.session (admitted c past) (holds c past p.session) h.fork h.beyond

uncalled : (c : Config) (past : List Act) (p : Place) → Ahead c past p → call c past p.session ≡ Nothing
uncalled c past p h = call_of_dead c past p.session (pending_session c past p h)

unmoved : (c : Config) (past : List Act) (p : Place) (w : Way) → Ahead c past p → is_going c past p.session w ≡ true → ⊥
unmoved c past p w h m =
    let r = moves_running c past p.session w m in
    true≢false (sym (and_parts (live c past p.session) _ (and_parts (live c past p.session && _) _ r).0).0 ∙ pending_session c past p h)

-- the program door accepts for a home alone, and at itself alone
unaccepted : (c : Config) (past : List Act) (p d : Place) → Ahead c past p → IsAway c past p → called_at c past p ≡ Accept d p → ⊥
unaccepted c past p d h away e = go (is_left p && has_fork c) e
  where
    go : (b : Bool) → cond b (door_call c past) (call c past p.session) ≡ Accept d p → ⊥
    go true x =
        let t : DoorTells c past (Accept d p) = subst (DoorTells c past) x (door_says c past) in
        away t.1
    go false x = let y : Nothing ≡ Accept d p = sym (uncalled c past p h) ∙ x in cc

unasked : (c : Config) (past : List Act) (d p : Place) → Ahead c past d → called_at c past d ≡ Accept d p → ⊥
unasked c past d p h e = go (is_left d && has_fork c) e
  where
    go : (b : Bool) → cond b (door_call c past) (call c past d.session) ≡ Accept d p → ⊥
    go true x =
        let t : DoorTells c past (Accept d p) = subst (DoorTells c past) x (door_says c past) in
        let f = h.fork in
        let k = t.0 in
        true≢false (sym (λ i. same_place (k i) program_door && f i) ∙ h.inside)
    go false x = let y : Nothing ≡ Accept d p = sym (uncalled c past d h) ∙ x in cc

neither : {P : Type 0} → (false ≡ true) ⊎ (false ≡ true) → P
neither (inl e) = absurd (false≢true e)
neither (inr e) = absurd (false≢true e)

-- but for an accepting, a closing and a reaping, no act is at any of its things
unworked : (c : Config) (n : ℕ) (act : Act) (past : List Act) (p : Place) → Legal c n (act ∷ past) → Ahead c past p → works_at p act ≡ true → (is_turn act ≡ true) ⊎ (reaps act ≡ true)
unworked c n (Turn until at ready stop) past p legal h e = inl refl
unworked c n (Opened q) past p legal h e = absurd (let t = same_place_equal q p e in no_open c past q (ap (λ (x : Place). call c past x.session) t ∙ uncalled c past p h) legal.0.1)
unworked c n (OpenLater q) past p legal h e = absurd (let t = same_place_equal q p e in no_open c past q (ap (λ (x : Place). call c past x.session) t ∙ uncalled c past p h) legal.0.1)
unworked c n (OpenFailed q) past p legal h e = absurd (let t = same_place_equal q p e in no_open c past q (ap (λ (x : Place). call c past x.session) t ∙ uncalled c past p h) legal.0.1)
unworked c n (Listening q) past p legal h e = absurd (let t = same_place_equal q p e in no_listen c past q (ap (λ (x : Place). call c past x.session) t ∙ uncalled c past p h) (ap (is_program_door c) t ∙ h.inside) legal.0.1)
unworked c n (ListenFailed q) past p legal h e = absurd (let t = same_place_equal q p e in no_listen c past q (ap (λ (x : Place). call c past x.session) t ∙ uncalled c past p h) (ap (is_program_door c) t ∙ h.inside) legal.0.1)
unworked c n (Accepted q peer) past p legal h e = absurd (false≢true e)
unworked c n (NoPeer q) past p legal h e = absurd (unasked c past p legal.0.1.0 h (subst (λ (x : Place). called_at c past x ≡ Accept x legal.0.1.0) (same_place_equal q p e) legal.0.1.1))
unworked c n (AcceptFailed q) past p legal h e = absurd (unasked c past p legal.0.1.0 h (subst (λ (x : Place). called_at c past x ≡ Accept x legal.0.1.0) (same_place_equal q p e) legal.0.1.1))
unworked c n (Read q bytes) past p legal h e = absurd (unmoved c past p (way_from p.side) h (subst (λ (x : Place). is_going c past x.session (way_from x.side) ≡ true) (same_place_equal q p e) legal.0.1.asks.moving))
unworked c n (ReadEmpty q) past p legal h e = absurd (unmoved c past p (way_from p.side) h (subst (λ (x : Place). is_going c past x.session (way_from x.side) ≡ true) (same_place_equal q p e) legal.0.1.asks.moving))
unworked c n (ReadEnd q) past p legal h e = absurd (unmoved c past p (way_from p.side) h (subst (λ (x : Place). is_going c past x.session (way_from x.side) ≡ true) (same_place_equal q p e) legal.0.1.asks.moving))
unworked c n (ReadNotYet q) past p legal h e = absurd (unmoved c past p (way_from p.side) h (subst (λ (x : Place). is_going c past x.session (way_from x.side) ≡ true) (same_place_equal q p e) legal.0.1.asks.moving))
unworked c n (ReadFault q) past p legal h e = absurd (unmoved c past p (way_from p.side) h (subst (λ (x : Place). is_going c past x.session (way_from x.side) ≡ true) (same_place_equal q p e) legal.0.1.asks.moving))
unworked c n (Wrote q bytes) past p legal h e = absurd (unmoved c past p (way_to p.side) h (subst (λ (x : Place). is_going c past x.session (way_to x.side) ≡ true) (same_place_equal q p e) legal.0.1.offers.moving))
unworked c n (WriteNotYet q) past p legal h e = absurd (unmoved c past p (way_to p.side) h (subst (λ (x : Place). is_going c past x.session (way_to x.side) ≡ true) (same_place_equal q p e) legal.0.1.offers.moving))
unworked c n (WriteFault q) past p legal h e = absurd (unmoved c past p (way_to p.side) h (subst (λ (x : Place). is_going c past x.session (way_to x.side) ≡ true) (same_place_equal q p e) legal.0.1.offers.moving))
unworked c n (Shut q way) past p legal h e = absurd (unmoved c past p (way_to p.side) h (subst (λ (x : Place). is_going c past x.session (way_to x.side) ≡ true) (same_place_equal q p e) legal.0.1.moving))
unworked c n (ShutFault q way) past p legal h e = absurd (unmoved c past p (way_to p.side) h (subst (λ (x : Place). is_going c past x.session (way_to x.side) ≡ true) (same_place_equal q p e) legal.0.1.moving))
unworked c n (Closed q why) past p legal h e = absurd (false≢true e)
unworked c n (Reaped q end) past p legal h e = inr refl
unworked c n (Note text) past p legal h e = absurd (false≢true e)
unworked c n (NoteFault text) past p legal h e = absurd (false≢true e)

not_there : (c : Config) (n : ℕ) (act : Act) (past : List Act) (p : Place) → Legal c n (act ∷ past) → Ahead c past p → IsAway c past p → Spared past p → is_at act p ≡ true → ⊥
not_there c n (Turn until at ready stop) past p legal h away k e = false≢true e
not_there c n (Accepted q peer) past p legal h away k e = unaccepted c past p legal.0.1.0 h away (subst (λ (x : Place). called_at c past x ≡ Accept legal.0.1.0 x) (same_place_equal q p e) legal.0.1.1)
not_there c n (Closed q why) past p legal h away k e = true≢false (sym (subst (λ (x : Place). held past x ≡ true) (same_place_equal q p e) legal.0.is_held) ∙ k.free)
not_there c n (Reaped q end) past p legal h away k e = true≢false (sym (subst (λ (x : Place). was_closed past x ≡ true) (same_place_equal q p e) legal.0.1.closed) ∙ k.unclosed)
not_there c n (Note text) past p legal h away k e = false≢true e
not_there c n (NoteFault text) past p legal h away k e = false≢true e
not_there c n (Opened q) past p legal h away k e = neither (unworked c n (Opened q) past p legal h e)
not_there c n (OpenLater q) past p legal h away k e = neither (unworked c n (OpenLater q) past p legal h e)
not_there c n (OpenFailed q) past p legal h away k e = neither (unworked c n (OpenFailed q) past p legal h e)
not_there c n (Listening q) past p legal h away k e = neither (unworked c n (Listening q) past p legal h e)
not_there c n (ListenFailed q) past p legal h away k e = neither (unworked c n (ListenFailed q) past p legal h e)
not_there c n (NoPeer q) past p legal h away k e = neither (unworked c n (NoPeer q) past p legal h e)
not_there c n (AcceptFailed q) past p legal h away k e = neither (unworked c n (AcceptFailed q) past p legal h e)
not_there c n (Read q bytes) past p legal h away k e = neither (unworked c n (Read q bytes) past p legal h e)
not_there c n (ReadEmpty q) past p legal h away k e = neither (unworked c n (ReadEmpty q) past p legal h e)
not_there c n (ReadEnd q) past p legal h away k e = neither (unworked c n (ReadEnd q) past p legal h e)
not_there c n (ReadNotYet q) past p legal h away k e = neither (unworked c n (ReadNotYet q) past p legal h e)
not_there c n (ReadFault q) past p legal h away k e = neither (unworked c n (ReadFault q) past p legal h e)
not_there c n (Wrote q bytes) past p legal h away k e = neither (unworked c n (Wrote q bytes) past p legal h e)
not_there c n (WriteNotYet q) past p legal h away k e = neither (unworked c n (WriteNotYet q) past p legal h e)
not_there c n (WriteFault q) past p legal h away k e = neither (unworked c n (WriteFault q) past p legal h e)
not_there c n (Shut q way) past p legal h away k e = neither (unworked c n (Shut q way) past p legal h e)
not_there c n (ShutFault q way) past p legal h away k e = neither (unworked c n (ShutFault q way) past p legal h e)

fewer : (c : Config) (act : Act) (past : List Act) (s : ℕ) → admitted c (act ∷ past) ≤ s → admitted c past ≤ s
fewer c (Accepted p peer) past s l = go (is_admission c p peer) l
  where
    go : (b : Bool) → one_more b (admitted c past) ≤ s → admitted c past ≤ s
    go true h = omega (arith, h)
    go false h = h
fewer c act past s l = l

pub untouched : (c : Config) (n : ℕ) (past : List Act) (p : Place) → has_fork c ≡ true → Legal c n past → admitted c past ≤ p.session → is_program_door c p ≡ false → same_place p (home c p.session) ≡ false → list_any (λ act. is_at act p) past ≡ false
untouched c n [] p f legal l d a = refl
untouched c n (act ∷ past) p f legal l d a =
    let m = fewer c act past p.session l in
    let ih = untouched c n past p f legal.1 m d a in
    or_from (is_at act p) (list_any (λ act. is_at act p) past) (false_from_ne_true (is_at act p) (not_there c n act past p legal (record { fork = f; beyond = m; inside = d }) (away_from c past p a) (spared past p ih))) ih

-- nor any act at all at a thing of a session after the next
before_next : (c : Config) (act : Act) (past : List Act) (s : ℕ) → admitted c (act ∷ past) < s → admitted c past < s
before_next c (Accepted p peer) past s l = go (is_admission c p peer) l
  where
    go : (b : Bool) → one_more b (admitted c past) < s → admitted c past < s
    go true h = omega (arith, h)
    go false h = h
before_next c act past s l = l

untouched_ahead : (c : Config) (n : ℕ) (past : List Act) (p : Place) → has_fork c ≡ true → Legal c n past → admitted c past < p.session → is_program_door c p ≡ false → list_any (λ act. is_at act p) past ≡ false
untouched_ahead c n [] p f legal l d = refl
untouched_ahead c n (act ∷ past) p f legal l d =
    let m = before_next c act past p.session l in
    let ih = untouched_ahead c n past p f legal.1 m d in
    let b : admitted c past ≤ p.session = omega (arith, m) in
    or_from (is_at act p) (list_any (λ act. is_at act p) past) (false_from_ne_true (is_at act p) (not_there c n act past p legal (record { fork = f; beyond = b; inside = d }) (away_ahead c past p m) (spared past p ih))) ih

-- ---- what no act worked at

-- nothing was done at the place or door but that peers were accepted and closed
pub record Clean (past : List Act) (p : Place) : Type 0 where
  pub failures_is : failures past p ≡ []
  pub woken_is : woken past p ≡ false
  pub accept_failed_is : accept_failed past p ≡ false
  pub was_reaped_is : was_reaped past p ≡ false
  pub got_is : got past p ≡ []
  pub put_is : put past p ≡ []
  pub sent_is : sent past p ≡ []
  pub met_end_is : met_end past p ≡ false
  pub met_empty_is : met_empty past p ≡ false
  pub shut_at_is : shut_at past p ≡ None
  pub read_fault_at_is : read_fault_at past p ≡ None
  pub write_fault_at_is : write_fault_at past p ≡ None
  pub armed_to_accept_is : armed_to_accept past p ≡ false
  pub asked_to_read_is : asked_to_read past p ≡ false

-- from what is said before an act elsewhere
clean_on : (act : Act) (past : List Act) (p : Place) → is_turn act ≡ false → is_at act p ≡ false → Clean past p → Clean (act ∷ past) p
clean_on act past p t e h =
    let k = elsewhere act past p t e in
    record {
      failures_is = k.failures_same ∙ h.failures_is;
      woken_is = k.woken_same ∙ h.woken_is;
      accept_failed_is = k.accept_failed_same ∙ h.accept_failed_is;
      was_reaped_is = k.was_reaped_same ∙ h.was_reaped_is;
      got_is = k.got_same ∙ h.got_is;
      put_is = k.put_same ∙ h.put_is;
      sent_is = k.sent_same ∙ h.sent_is;
      met_end_is = k.met_end_same ∙ h.met_end_is;
      met_empty_is = k.met_empty_same ∙ h.met_empty_is;
      shut_at_is = k.shut_at_same ∙ h.shut_at_is;
      read_fault_at_is = k.read_fault_at_same ∙ h.read_fault_at_is;
      write_fault_at_is = k.write_fault_at_same ∙ h.write_fault_at_is;
      armed_to_accept_is = k.armed_to_accept_same ∙ h.armed_to_accept_is;
      asked_to_read_is = k.asked_to_read_same ∙ h.asked_to_read_is;
    }

clean_step : (act : Act) (past : List Act) (p : Place) → works_at p act ≡ false → Clean past p → Clean (act ∷ past) p
clean_step (Turn until at ready stop) past p e h =
    let t = or_parts (names ready.entries p ToRead) (names ready.entries p ToWrite) e in
    let r = t.0 in
    let w = t.1 in
    let k = h.woken_is in
    let d = h.armed_to_accept_is in
    record {
      failures_is = h.failures_is;
      woken_is = λ i. r i || w i || k i;
      accept_failed_is = h.accept_failed_is;
      was_reaped_is = h.was_reaped_is;
      got_is = h.got_is;
      put_is = h.put_is;
      sent_is = h.sent_is;
      met_end_is = h.met_end_is;
      met_empty_is = h.met_empty_is;
      shut_at_is = h.shut_at_is;
      read_fault_at_is = h.read_fault_at_is;
      write_fault_at_is = h.write_fault_at_is;
      armed_to_accept_is = λ i. r i || d i;
      asked_to_read_is = refl;
    }
clean_step (Accepted q peer) past p e h = record {
  failures_is = h.failures_is;
  woken_is = h.woken_is;
  accept_failed_is = h.accept_failed_is;
  was_reaped_is = h.was_reaped_is;
  got_is = h.got_is;
  put_is = h.put_is;
  sent_is = h.sent_is;
  met_end_is = h.met_end_is;
  met_empty_is = h.met_empty_is;
  shut_at_is = h.shut_at_is;
  read_fault_at_is = h.read_fault_at_is;
  write_fault_at_is = h.write_fault_at_is;
  armed_to_accept_is = h.armed_to_accept_is;
  asked_to_read_is = h.asked_to_read_is;
}
clean_step (Closed q why) past p e h = record {
  failures_is = h.failures_is;
  woken_is = h.woken_is;
  accept_failed_is = h.accept_failed_is;
  was_reaped_is = h.was_reaped_is;
  got_is = h.got_is;
  put_is = h.put_is;
  sent_is = h.sent_is;
  met_end_is = h.met_end_is;
  met_empty_is = h.met_empty_is;
  shut_at_is = h.shut_at_is;
  read_fault_at_is = h.read_fault_at_is;
  write_fault_at_is = h.write_fault_at_is;
  armed_to_accept_is = h.armed_to_accept_is;
  asked_to_read_is = h.asked_to_read_is;
}
clean_step act past p e h = clean_on act past p refl e h

pub clean : (past : List Act) (p : Place) → list_any (works_at p) past ≡ false → Clean past p
clean [] p e = record { failures_is = refl; woken_is = refl; accept_failed_is = refl; was_reaped_is = refl; got_is = refl; put_is = refl; sent_is = refl; met_end_is = refl; met_empty_is = refl; shut_at_is = refl; read_fault_at_is = refl; write_fault_at_is = refl; armed_to_accept_is = refl; asked_to_read_is = refl }
clean (act ∷ past) p e = let a = or_parts (works_at p act) (list_any (works_at p) past) e in clean_step act past p a.0 (clean past p a.1)

and_none : (b : Bool) → (b && false) ≡ false
and_none true = refl
and_none false = refl

-- nothing was asked of an output where nothing was done
unwritten_step : (act : Act) (past : List Act) (i o : Place) → works_at o act ≡ false → asked_to_write past i o ≡ false → asked_to_write (act ∷ past) i o ≡ false
unwritten_step (Turn until at ready stop) past i o e h = refl
unwritten_step (Read q bytes) past i o e h = ap (λ b. not (same_place q i) && b) h ∙ and_none (not (same_place q i))
unwritten_step (Wrote q bytes) past i o e h = λ j. e j || h j
unwritten_step (WriteNotYet q) past i o e h = λ j. e j || h j
unwritten_step (WriteFault q) past i o e h = λ j. e j || h j
unwritten_step act past i o e h = h

pub unwritten : (past : List Act) (i o : Place) → list_any (works_at o) past ≡ false → asked_to_write past i o ≡ false
unwritten [] i o e = refl
unwritten (act ∷ past) i o e = let a = or_parts (works_at o act) (list_any (works_at o) past) e in unwritten_step act past i o a.0 (unwritten past i o a.1)

-- no piece is due of an input where nothing was done
unread_step : (c : Config) (act : Act) (past : List Act) (s : ℕ) (w : Way) → works_at (input c s w) act ≡ false → due_pieces c past s w ≡ [] → due_pieces c (act ∷ past) s w ≡ []
unread_step c (Read q bytes) past s w e h = rw e h
unread_step c act past s w e h = h

pub unread : (c : Config) (past : List Act) (s : ℕ) (w : Way) → list_any (works_at (input c s w)) past ≡ false → due_pieces c past s w ≡ []
unread c [] s w e = refl
unread c (act ∷ past) s w e = let a = or_parts (works_at (input c s w) act) (list_any (works_at (input c s w)) past) e in unread_step c act past s w a.0 (unread c past s w a.1)

-- no act worked at what no act was at
spared_work : (act : Act) (p : Place) → is_at act p ≡ false → is_named_by p act ≡ false → works_at p act ≡ false
spared_work (Turn until at ready stop) p e u = u
spared_work (Accepted q peer) p e u = refl
spared_work (Closed q why) p e u = refl
spared_work act p e u = e

pub unworked_there : (past : List Act) (p : Place) → list_any (λ act. is_at act p) past ≡ false → list_any (is_named_by p) past ≡ false → list_any (works_at p) past ≡ false
unworked_there [] p e u = refl
unworked_there (act ∷ past) p e u =
    let a = or_parts (is_at act p) (list_any (λ act. is_at act p) past) e in
    let b = or_parts (is_named_by p act) (list_any (is_named_by p) past) u in
    or_from (works_at p act) (list_any (works_at p) past) (spared_work act p a.0 b.0) (unworked_there past p a.1 b.1)

-- nothing is done at the home of a session that hasn't begun but that refused peers come and go
visit : (c : Config) (n : ℕ) (act : Act) (past : List Act) (p : Place) → Legal c n (act ∷ past) → Ahead c past p → is_program (medium_of c p) ≡ false → is_named_by p act ≡ false → works_at p act ≡ true → ⊥
visit c n (Turn until at ready stop) past p legal h k u e = false≢true (sym u ∙ e)
visit c n (Reaped q end) past p legal h k u e = true≢false (sym (subst (λ (x : Place). is_program (medium_of c x) ≡ true) (same_place_equal q p e) legal.0.1.is_child) ∙ k)
visit c n (Opened q) past p legal h k u e = neither (unworked c n (Opened q) past p legal h e)
visit c n (OpenLater q) past p legal h k u e = neither (unworked c n (OpenLater q) past p legal h e)
visit c n (OpenFailed q) past p legal h k u e = neither (unworked c n (OpenFailed q) past p legal h e)
visit c n (Listening q) past p legal h k u e = neither (unworked c n (Listening q) past p legal h e)
visit c n (ListenFailed q) past p legal h k u e = neither (unworked c n (ListenFailed q) past p legal h e)
visit c n (Accepted q peer) past p legal h k u e = neither (unworked c n (Accepted q peer) past p legal h e)
visit c n (NoPeer q) past p legal h k u e = neither (unworked c n (NoPeer q) past p legal h e)
visit c n (AcceptFailed q) past p legal h k u e = neither (unworked c n (AcceptFailed q) past p legal h e)
visit c n (Read q bytes) past p legal h k u e = neither (unworked c n (Read q bytes) past p legal h e)
visit c n (ReadEmpty q) past p legal h k u e = neither (unworked c n (ReadEmpty q) past p legal h e)
visit c n (ReadEnd q) past p legal h k u e = neither (unworked c n (ReadEnd q) past p legal h e)
visit c n (ReadNotYet q) past p legal h k u e = neither (unworked c n (ReadNotYet q) past p legal h e)
visit c n (ReadFault q) past p legal h k u e = neither (unworked c n (ReadFault q) past p legal h e)
visit c n (Wrote q bytes) past p legal h k u e = neither (unworked c n (Wrote q bytes) past p legal h e)
visit c n (WriteNotYet q) past p legal h k u e = neither (unworked c n (WriteNotYet q) past p legal h e)
visit c n (WriteFault q) past p legal h k u e = neither (unworked c n (WriteFault q) past p legal h e)
visit c n (Shut q way) past p legal h k u e = neither (unworked c n (Shut q way) past p legal h e)
visit c n (ShutFault q way) past p legal h k u e = neither (unworked c n (ShutFault q way) past p legal h e)
visit c n (Closed q why) past p legal h k u e = neither (unworked c n (Closed q why) past p legal h e)
visit c n (Note text) past p legal h k u e = neither (unworked c n (Note text) past p legal h e)
visit c n (NoteFault text) past p legal h k u e = neither (unworked c n (NoteFault text) past p legal h e)

pub visited : (c : Config) (n : ℕ) (past : List Act) (p : Place) → has_fork c ≡ true → Legal c n past → admitted c past ≤ p.session → is_program_door c p ≡ false → is_program (medium_of c p) ≡ false → list_any (is_named_by p) past ≡ false → list_any (works_at p) past ≡ false
visited c n [] p f legal l d k u = refl
visited c n (act ∷ past) p f legal l d k u =
    let m = fewer c act past p.session l in
    let b = or_parts (is_named_by p act) (list_any (is_named_by p) past) u in
    or_from (works_at p act) (list_any (works_at p) past) (false_from_ne_true (works_at p act) (visit c n act past p legal (record { fork = f; beyond = m; inside = d }) k b.0)) (visited c n past p f legal.1 m d k b.1)

-- no accepting was asked of an own door where nothing happened, nor at its place
door_apart : (c : Config) (q p : Place) → has_fork c ≡ true → is_program_door c (door_of p) ≡ false → p.door ≡ false → same_place q p ≡ false → same_place q (door_of p) ≡ false → same_place (accepting_door c q) (door_of p) ≡ false
door_apart c q p f d k a b = go (is_left q && has_fork c)
  where
    own : (x : Bool) → q.door ≡ x → same_place (door_of q) (door_of p) ≡ true → ⊥
    own true x e = true≢false (sym e ∙ ap (λ y. same_side q.side p.side && same_part q.part p.part && same_bool y true && q.session == p.session) (sym x) ∙ b)
    own false x e = true≢false (sym e ∙ sym (λ i. same_side q.side p.side && same_part q.part p.part && same_bool (x i) (k i) && q.session == p.session) ∙ a)

    go : (x : Bool) → same_place (cond x program_door (door_of q)) (door_of p) ≡ false
    go true = false_from_ne_true (same_place program_door (door_of p)) (λ e. let t = same_place_equal program_door (door_of p) e in let g = sym f in true≢false ((λ i. same_place (t i) program_door && g i) ∙ d))
    go false = false_from_ne_true (same_place (door_of q) (door_of p)) (own q.door refl)

unasked_step : (c : Config) (act : Act) (past : List Act) (p : Place) → has_fork c ≡ true → is_program_door c (door_of p) ≡ false → p.door ≡ false → is_at act p ≡ false → is_at act (door_of p) ≡ false → asked_to_accept c past (door_of p) ≡ false → asked_to_accept c (act ∷ past) (door_of p) ≡ false
unasked_step c (Turn until at ready stop) past p f d k a b h = refl
unasked_step c (Accepted q peer) past p f d k a b h = let t = door_apart c q p f d k a b in λ i. t i || h i
unasked_step c (NoPeer q) past p f d k a b h = λ i. b i || h i
unasked_step c (AcceptFailed q) past p f d k a b h = λ i. b i || h i
unasked_step c act past p f d k a b h = h

pub unasked_door : (c : Config) (past : List Act) (p : Place) → has_fork c ≡ true → is_program_door c (door_of p) ≡ false → p.door ≡ false → list_any (λ act. is_at act p) past ≡ false → list_any (λ act. is_at act (door_of p)) past ≡ false → asked_to_accept c past (door_of p) ≡ false
unasked_door c [] p f d k a b = refl
unasked_door c (act ∷ past) p f d k a b =
    let x = or_parts (is_at act p) (list_any (λ act. is_at act p) past) a in
    let y = or_parts (is_at act (door_of p)) (list_any (λ act. is_at act (door_of p)) past) b in
    unasked_step c act past p f d k x.0 y.0 (unasked_door c past p f d k x.1 y.1)

-- ---- what no turn named

or_first : (x y : Bool) → x ≡ true → (x || y) ≡ true
or_first true y e = refl
or_first false y e = absurd (false≢true e)

home_among : (f : Place → Bool) (s : ℕ) (w : Ways) (a : Address) (r d : List Place) → f (place_at s Left (first_part (parts_of w a Left))) ≡ true → list_any f ((map (place_at s Left) (parts_of w a Left) ++ r) ++ d) ≡ true
home_among f s ways.Two (addresses.One single) r d e = or_first (f (place_at s Left (first_part (parts_of ways.Two (addresses.One single) Left)))) (list_any f (r ++ d)) e
home_among f s ways.Two (addresses.Two reading writing) r d e = or_first (f (place_at s Left Reading)) (list_any f (place_at s Left Writing ∷ r ++ d)) e
home_among f s ways.OnlyRight a r d e = or_first (f (place_at s Left Reading)) (list_any f (r ++ d)) e
home_among f s ways.OnlyLeft a r d e = or_first (f (place_at s Left Writing)) (list_any f (r ++ d)) e

home_holds : (c : Config) (past : List Act) (s : ℕ) → held past (home c s) ≡ true → holds c past s ≡ true
home_holds c past s e = home_among (held past) s c.ways c.left (map (place_at s Right) (parts c Right)) (own_doors c s) e

-- what cuts the program door is a cause of each session
cut_causes : (k : Option Why) (m t f a : Bool) (b : Bool) (xs : List (Option Why)) → f ≡ true → (m || t || a) ≡ true → is_some (first_some (k ∷ only_if m whys.Memory ∷ only_if t whys.Stopped ∷ only_if (f && a || b) whys.AcceptFailed ∷ xs)) ≡ true
cut_causes (Some w) m t f a b xs g e = refl
cut_causes None true t f a b xs g e = refl
cut_causes None false true f a b xs g e = refl
cut_causes None false false true true b xs g e = refl
cut_causes None false false true false b xs g e = absurd (false≢true e)
cut_causes None false false false a b xs g e = absurd (false≢true g)

cut_cause : (c : Config) (past : List Act) (s : ℕ) → has_fork c ≡ true → door_cut past ≡ true → is_some (cause c past s) ≡ true
cut_cause c past s f d = cut_causes (closed_why c past s) (memory_said past) (stop_said past) (has_fork c) (accept_failed past program_door) (list_any (accept_failed past) (own_doors c s)) (only_if (listening_failed c past s) whys.ListenFailed ∷ only_if (opening_failed c past s) whys.OpenFailed ∷ only_if (faulted c past s) whys.Faulted ∷ only_if (finished c past s) whys.Finished ∷ only_if (ready c past s && reached (closing_moment c past s) (now past)) whys.ClosingTime ∷ only_if (ready c past s && reached (idle_moment c past s) (now past)) whys.Idle ∷ []) f d

-- where a wait is in order, the place that the next peer gets is free
next_free : (c : Config) (past : List Act) → has_fork c ≡ true → Rest c past → held past (next_place c past) ≡ true → ⊥
next_free c past f r e = go (cases_Bool (door_cut past))
  where
    s : ℕ
    s = admitted c past

    go : (door_cut past ≡ true) ⊎ (door_cut past ≡ false) → ⊥
    go (inl d) =
        let k = cut_cause c past s f d in
        true≢false (sym (home_holds c past s e) ∙ (r.sessions s).ended k)
    go (inr d) =
        true≢false (sym (λ i. presses (cond (not (f i) || d i) Nothing (cond (e i) (Refuse (next_place c past)) (program_door_call c past (stage past program_door))))) ∙ r.door.no_call)

at_rest : (c : Config) (n : ℕ) (past : List Act) (p : Place) → has_fork c ≡ true → Legal c n past → Rest c past → admitted c past ≤ p.session → is_program_door c p ≡ false → held past p ≡ true → ⊥
at_rest c n past p f legal r l d e = go (cases_Bool (same_place p (home c p.session)))
  where
    free : list_any (λ act. is_at act p) past ≡ false → ⊥
    free u = true≢false (sym e ∙ (spared past p u).free)

    go : (same_place p (home c p.session) ≡ true) ⊎ (same_place p (home c p.session) ≡ false) → ⊥
    go (inr a) = free (untouched c n past p f legal l d a)
    go (inl a) = next (cases_eq (admitted c past) p.session)
      where
        next : (admitted c past ≡ p.session) ⊎ ((admitted c past ≡ p.session) → ⊥) → ⊥
        next (inl k) = next_free c past f r (ap (held past) (sym (same_place_equal p (home c p.session) a ∙ ap (home c) (sym k))) ∙ e)
        next (inr k) = free (untouched_ahead c n past p f legal (omega (arith, l, k)) d)

unnamed_step : (c : Config) (n : ℕ) (act : Act) (past : List Act) (p : Place) → has_fork c ≡ true → Legal c n (act ∷ past) → OnlyHeldWereNamed (act ∷ past) → admitted c past ≤ p.session → is_program_door c p ≡ false → is_named_by p act ≡ false
unnamed_step c n (Turn until at ready stop) past p f legal h l d =
    let none : (half : Half) → names ready.entries p half ≡ false = λ half. false_from_ne_true (names ready.entries p half) (λ e. at_rest c n past p f legal.1 legal.0.1.rests l d (h.0 p half e)) in
    or_from (names ready.entries p ToRead) (names ready.entries p ToWrite) (none ToRead) (none ToWrite)
unnamed_step c n act past p f legal h l d = refl

named_before : (act : Act) (past : List Act) → OnlyHeldWereNamed (act ∷ past) → OnlyHeldWereNamed past
named_before (Turn until at ready stop) past h = h.1
named_before act past h = h

pub unbegun_unnamed : (c : Config) (n : ℕ) (past : List Act) (p : Place) → has_fork c ≡ true → Legal c n past → OnlyHeldWereNamed past → admitted c past ≤ p.session → is_program_door c p ≡ false → list_any (is_named_by p) past ≡ false
unbegun_unnamed c n [] p f legal h l d = refl
unbegun_unnamed c n (act ∷ past) p f legal h l d =
    let m = fewer c act past p.session l in
    or_from (is_named_by p act) (list_any (is_named_by p) past) (unnamed_step c n act past p f legal h m d) (unbegun_unnamed c n past p f legal.1 (named_before act past h) m d)
