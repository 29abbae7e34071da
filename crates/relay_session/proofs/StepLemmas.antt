-- What each act makes of a state that heard it.
use Rattle.std.proofs.Common.{◌≡◌, refl, sym, ap, subst, ◌∙◌, ℕ, ◌+◌, ◌<◌, ◌≤◌, Bool, true, false, not, cond, ◌&&◌, ◌||◌, ◌==◌, List, [], ◌∷◌, length, take, Option, Some, None, is_some, inl, inr, arith}
use Rattle.std.proofs.lemmas.Bool.{false≢true, and_right, and_parts}
use Rattle.std.specs.List.{list_any, list_all}
use Rattle.relay_model.specs.declared.places.Place.{Place}
use Rattle.relay_model.specs.declared.places.Way.{Way}
use Rattle.relay_model.specs.declared.places.Way.TheVariants.{LeftToRight, RightToLeft}
use Rattle.relay_model.specs.declared.commands.Config.{Config}
use Rattle.relay_model.specs.declared.acts.Act.{Act}
use Rattle.relay_model.specs.declared.acts.Act.TheVariants as acts
use Rattle.relay_model.specs.declared.acts.ChildEnd.{ChildEnd}
use Rattle.relay_model.specs.declared.acts.Why.{Why}
use Rattle.relay_model.specs.declared.acts.Why.TheVariants as whys
use Rattle.relay_model.specs.declared.readiness.ReadyAt.{ReadyAt}
use Rattle.relay_model.specs.Places.{same_place, same_side, same_part, same_bool}
use Rattle.relay_model.specs.Configs.{places, is_of, is_place_of, has_fork, input, output, formed, way_from, way_to, own_doors, keeps_borders, program_door, Fit}
use Rattle.relay_model.specs.History.{now, accept_failed, memory_said, stop_said, same_why, held, holds_at, stage}
use Rattle.relay_model.specs.declared.stages.Stage.TheVariants.{Gone}
use Rattle.relay_model.specs.Sessions.{numbers}
use Rattle.relay_model.specs.Choices.{only_if, first_some}
use Rattle.relay_model.specs.declared.places.Side.TheVariants.{Left}
use Rattle.relay_session.proofs.Homes.{begun_after, NamesThing, called_here, held_away}
use Rattle.relay_model.specs.Moments.{moved_at, closing_moment, idle_moment, reached}
use Rattle.relay_model.specs.Openings.{first_call, ready}
use Rattle.relay_model.specs.declared.calls.Call.{Call}
use Rattle.relay_model.specs.declared.calls.Call.TheVariants.{Accept, Refuse, Serve}
use Rattle.relay_model.specs.Cause.{cause, closed_why, fault_stands, accept_failed_for, is_end, listening_failed, opening_failed, faulted, finished}
use Rattle.relay_model.specs.Calls.{call, called_at}
use Rattle.relay_model.specs.Rest.{owed, Rest}
use Rattle.place_openings.specs.Touching.{touches}
use Rattle.relay_model.specs.May.{May, MayWrite, MayRead, MayTryWrite, MayOffer}
use Rattle.relay_laws.proofs.PlaceLemmas.{same_place_equal}
use Rattle.relay_laws.proofs.Holdings.{moves_formed, input_passes, output_passes}
use Rattle.place_openings.specs.Stands.{AreOpenings}
use Rattle.place_openings.specs.Steps.{steps_in}
use Rattle.session_direction.specs.Directions.{listed}
use Rattle.relay_session.specs.declared.lanes.Lanes.{Lanes}
use Rattle.relay_session.specs.declared.states.State.{State}
use Rattle.relay_session.specs.declared.transfers.Transfer.{Transfer}
use Rattle.relay_session.specs.declared.transfers.Transfer.TheVariants as transfers
use Rattle.relay_session.specs.Endings.{Quiet, Ends, EndingIs}
use Rattle.relay_session.specs.declared.lanes.SessionLane.{SessionLane}
use Rattle.relay_session.specs.declared.lanes.SessionLane.TheVariants.{Unformed, Formed}
use Rattle.relay_session.specs.Lanes.{IsLane, AreLanes, ReadsAt, Offers, lanes_steps, lane_at, waiting_in, waiting_at}
use Rattle.session_direction.proofs.Wanted.{packets_are, may_write_some}
use Rattle.relay_session.specs.Transfers.{transfer_act, MayTransfer, TakesFrom, is_fault}
use Rattle.relay_session.specs.States.{Ground, Fields, Closes, ClosesFor, home, steps_of}
use Rattle.relay_session.specs.Steps.{Absorbed, Heeds}
use Rattle.relay_session.proofs.Causes.{ending_of, own_session, closed_cause}
use Rattle.relay_session.proofs.Own.{AllStand, NamesOwn, all_stand}
use Rattle.relay_session.proofs.Plans.{called, named, quiet_while}
use Rattle.relay_session.proofs.Quiet.{keeps_quiet, quiet_after, quiet_closed, quiet_at_first, read_fault_stands, write_fault_stands, faultless}

-- ---- the fields after an act

why_refused : (why : Why) → same_why why whys.Refused ≡ true → why ≡ whys.Refused
why_refused whys.Refused e = refl
why_refused why e = absurd (false≢true e)

-- what no act changes
pub record Steady (old new : State) : Type 0 where
  pub clock_same : new.clock ≡ old.clock
  pub closing_same : new.closing ≡ old.closing
  pub idle_same : new.idle ≡ old.idle
  pub sloppy_same : new.sloppy ≡ old.sloppy

pub ground_after : (c : Config) (past later : List Act) (s : ℕ) (old new : State) → Ground c past s old → s < numbers c later → (has_fork c ≡ true → closed_why c later s ≡ None → held later (home c s) ≡ true) → now later ≡ now past → Steady old new → AreOpenings c later s new.openings → AreLanes c later s new.lanes → new.moved ≡ moved_at c later s → new.faulted ≡ fault_stands c later s → Ground c later s new
ground_after c past later s old new g begun home_held at same openings lanes move fault =
    record {
      fit = g.fit;
      begun = begun;
      home_held = home_held;
      openings_are = openings;
      lanes_are = lanes;
      clock_is = same.clock_same ∙ (g.clock_is ∙ sym at);
      moved_is = move;
      faulted_is = fault;
      closing_is = same.closing_same ∙ g.closing_is;
      idle_is = same.idle_same ∙ g.idle_is;
      sloppy_is = same.sloppy_same ∙ g.sloppy_is;
    }

-- two states that differ in their ending alone
pub record EndsAs (mid new : State) : Type 0 where
  pub openings_same : new.openings ≡ mid.openings
  pub lanes_same : new.lanes ≡ mid.lanes
  pub clock_same : new.clock ≡ mid.clock
  pub moved_same : new.moved ≡ mid.moved
  pub faulted_same : new.faulted ≡ mid.faulted
  pub closing_same : new.closing ≡ mid.closing
  pub idle_same : new.idle ≡ mid.idle
  pub sloppy_same : new.sloppy ≡ mid.sloppy

pub ground_again : (c : Config) (past : List Act) (s : ℕ) (mid new : State) → Ground c past s mid → EndsAs mid new → Ground c past s new
ground_again c past s mid new g again =
    record {
      fit = g.fit;
      begun = g.begun;
      home_held = g.home_held;
      openings_are = subst (AreOpenings c past s) (sym again.openings_same) g.openings_are;
      lanes_are = subst (AreLanes c past s) (sym again.lanes_same) g.lanes_are;
      clock_is = again.clock_same ∙ g.clock_is;
      moved_is = again.moved_same ∙ g.moved_is;
      faulted_is = again.faulted_same ∙ g.faulted_is;
      closing_is = again.closing_same ∙ g.closing_is;
      idle_is = again.idle_same ∙ g.idle_is;
      sloppy_is = again.sloppy_same ∙ g.sloppy_is;
    }

pub as_it_was : (st : State) → EndsAs st st
as_it_was st = record { openings_same = refl; lanes_same = refl; clock_same = refl; moved_same = refl; faulted_same = refl; closing_same = refl; idle_same = refl; sloppy_same = refl }

pub fields_of : (c : Config) (n : ℕ) (past : List Act) (s : ℕ) (st : State) → Ground c past s st → Quiet c past s → st.ending ≡ cause c past s → Fields c n past s st
fields_of c n past s st g q e = record { ground = g; ending_is = ending_of c n past s st.ending e q }

pub heeded : (c : Config) (n : ℕ) (past : List Act) (s : ℕ) (st : State) → Heeds c past s st → Fields c n past s st
heeded c n past s st h = fields_of c n past s st h.ground h.quiet h.ending_is

pub at_first : (c : Config) (n : ℕ) (mid st : State) → Fit c → has_fork c ≡ false → AreOpenings c [] 0 mid.openings → AreLanes c [] 0 mid.lanes → mid.clock ≡ 0 → mid.moved ≡ 0 → mid.faulted ≡ false → mid.closing ≡ c.closing → mid.idle ≡ c.idle → mid.sloppy ≡ c.sloppy → EndsAs mid st → (Ground c [] 0 mid → Quiet c [] 0 → st.ending ≡ cause c [] 0) → Fields c n [] 0 st
at_first c n mid st fit alone openings lanes clock move fault closing idle sloppy again ending =
    let g : Ground c [] 0 mid = record { fit = fit; begun = subst (λ (b : Bool). 0 < cond b 0 1) (sym alone) (omega arith); home_held = λ fork e. absurd (false≢true (sym alone ∙ fork)); openings_are = openings; lanes_are = lanes; clock_is = clock; moved_is = move; faulted_is = fault ∙ faultless c 0; closing_is = closing; idle_is = idle; sloppy_is = sloppy } in
    fields_of c n [] 0 st (ground_again c [] 0 mid st g again) (quiet_at_first c 0) (ending g (quiet_at_first c 0))

-- ---- an act that ends nothing from outside

less_left : (a a' b b' : ℕ) → a' < a → b' ≡ b → a' + b' < a + b
less_left a a' b b' h e = omega (arith, h, e)

less_right : (a a' b b' : ℕ) → a' ≡ a → b' < b → a' + b' < a + b
less_right a a' b b' e h = omega (arith, h, e)

steps_again : (mid new : State) → EndsAs mid new → steps_of new ≡ steps_of mid
steps_again mid new again = λ i. steps_in (again.openings_same i) + lanes_steps (again.lanes_same i)

home_after : (c : Config) (n : ℕ) (past : List Act) (s : ℕ) (act : Act) (old : State) → Fields c n past s old → old.ending ≡ None → (has_fork c ≡ true → held (act ∷ past) (home c s) ≡ held past (home c s)) → has_fork c ≡ true → closed_why c (act ∷ past) s ≡ None → held (act ∷ past) (home c s) ≡ true
home_after c n past s act old f e away fork u = away fork ∙ f.ground.home_held fork (quiet_while c n past s old.ending f.ending_is e).0.unclosed

pub opening_step : (c : Config) (n : ℕ) (past : List Act) (s : ℕ) (act : Act) (old mid new : State) → Fields c n past s old → old.ending ≡ None → (has_fork c ≡ true → held (act ∷ past) (home c s) ≡ held past (home c s)) → keeps_quiet act ≡ true → now (act ∷ past) ≡ now past →
    (owed c past ≡ None → May c n past act) → Steady old mid → AreOpenings c (act ∷ past) s mid.openings → AreLanes c (act ∷ past) s mid.lanes →
    mid.moved ≡ moved_at c (act ∷ past) s → mid.faulted ≡ fault_stands c (act ∷ past) s →
    EndsAs mid new → (Ground c (act ∷ past) s mid → Quiet c (act ∷ past) s → new.ending ≡ cause c (act ∷ past) s) →
    steps_in mid.openings < steps_in old.openings → lanes_steps mid.lanes ≡ lanes_steps old.lanes → Absorbed c n past s act old new
opening_step c n past s act old mid new f e away quiet at may same openings lanes move fault again ending fewer lanes_same =
    let g = ground_after c past (act ∷ past) s old mid f.ground (begun_after c act past s f.ground.begun) (home_after c n past s act old f e away) at same openings lanes move fault in
    let q = quiet_after c past s act quiet (quiet_while c n past s old.ending f.ending_is e).0 in
    record { may = may; fields = fields_of c n (act ∷ past) s new (ground_again c (act ∷ past) s mid new g again) q (ending g q); fewer = subst (λ k. k < steps_of old) (sym (steps_again mid new again)) (less_left (steps_in old.openings) (steps_in mid.openings) (lanes_steps old.lanes) (lanes_steps mid.lanes) fewer lanes_same) }

pub transfer_step : (c : Config) (n : ℕ) (past : List Act) (s : ℕ) (act : Act) (old mid new : State) → Fields c n past s old → old.ending ≡ None → (has_fork c ≡ true → held (act ∷ past) (home c s) ≡ held past (home c s)) → keeps_quiet act ≡ true → now (act ∷ past) ≡ now past →
    (owed c past ≡ None → May c n past act) → Steady old mid → AreOpenings c (act ∷ past) s mid.openings → AreLanes c (act ∷ past) s mid.lanes →
    mid.moved ≡ moved_at c (act ∷ past) s → mid.faulted ≡ fault_stands c (act ∷ past) s →
    EndsAs mid new → (Ground c (act ∷ past) s mid → Quiet c (act ∷ past) s → new.ending ≡ cause c (act ∷ past) s) →
    steps_in mid.openings ≡ steps_in old.openings → lanes_steps mid.lanes < lanes_steps old.lanes → Absorbed c n past s act old new
transfer_step c n past s act old mid new f e away quiet at may same openings lanes move fault again ending openings_same fewer =
    let g = ground_after c past (act ∷ past) s old mid f.ground (begun_after c act past s f.ground.begun) (home_after c n past s act old f e away) at same openings lanes move fault in
    let q = quiet_after c past s act quiet (quiet_while c n past s old.ending f.ending_is e).0 in
    record { may = may; fields = fields_of c n (act ∷ past) s new (ground_again c (act ∷ past) s mid new g again) q (ending g q); fewer = subst (λ k. k < steps_of old) (sym (steps_again mid new again)) (less_right (steps_in old.openings) (steps_in mid.openings) (lanes_steps old.lanes) (lanes_steps mid.lanes) openings_same fewer) }

-- an act after which the session has ended for this reason
pub ending_step : (c : Config) (n : ℕ) (past : List Act) (s : ℕ) (act : Act) (old new : State) (why : Why) → Fields c n past s old → old.ending ≡ None → (has_fork c ≡ true → held (act ∷ past) (home c s) ≡ held past (home c s)) → now (act ∷ past) ≡ now past →
    (owed c past ≡ None → May c n past act) → Steady old new → AreOpenings c (act ∷ past) s new.openings → AreLanes c (act ∷ past) s new.lanes →
    new.moved ≡ moved_at c (act ∷ past) s → new.faulted ≡ fault_stands c (act ∷ past) s →
    new.ending ≡ Some why → Ends c n (act ∷ past) s why →
    steps_in new.openings < steps_in old.openings → lanes_steps new.lanes ≡ lanes_steps old.lanes → Absorbed c n past s act old new
ending_step c n past s act old new why f e away at may same openings lanes move fault ending ends fewer lanes_same =
    record {
      may = may;
      fields = record { ground = ground_after c past (act ∷ past) s old new f.ground (begun_after c act past s f.ground.begun) (home_after c n past s act old f e away) at same openings lanes move fault; ending_is = subst (EndingIs c n (act ∷ past) s) (sym ending) ends };
      fewer = less_left (steps_in old.openings) (steps_in new.openings) (lanes_steps old.lanes) (lanes_steps new.lanes) fewer lanes_same;
    }

-- ---- what is called for

pub own_of : (c : Config) (n : ℕ) (past : List Act) (s : ℕ) (st : State) (k : Call) → Fields c n past s st → st.ending ≡ None → call c past s ≡ k → NamesOwn c s k
own_of c n past s st k f e h = named c past s k (sym (called c n past s st f e) ∙ h)

pub first_of_call : (c : Config) (n : ℕ) (past : List Act) (s : ℕ) (st : State) (k : Call) → Fields c n past s st → st.ending ≡ None → call c past s ≡ k → first_call c past (places c s) ≡ k
first_of_call c n past s st k f e h = sym (called c n past s st f e) ∙ h

-- it is called for at a thing of the session
pub called_there : (c : Config) (n : ℕ) (past : List Act) (s : ℕ) (st : State) (k : Call) (q : Place) → Fields c n past s st → call c past s ≡ k → NamesThing k q → is_of c s q ≡ true → called_at c past q ≡ k
called_there c n past s st k q f h names own = called_here c past s k q f.ground.fit h names (own_session c s q own)

pub noted : (b : Bool) (at x y : ℕ) → b ≡ true → x ≡ at → x ≡ cond b at y
noted true at x y e h = h
noted false at x y e h = absurd (false≢true e)

-- ---- transfers

pub input_own : (c : Config) (s : ℕ) (w : Way) → formed c w ≡ true → is_place_of c s (input c s w) ≡ true
input_own c s w f = input_passes c (is_place_of c s) s w f (each_own c s (places c s) (all_stand c s))
  where
    each_own : (c : Config) (s : ℕ) (ps : List Place) → AllStand c s ps → list_all (is_place_of c s) ps ≡ true
    each_own c s [] h = refl
    each_own c s (p ∷ ps) h = rw (h.0.place.among, each_own c s ps h.1) refl

pub output_own : (c : Config) (s : ℕ) (w : Way) → formed c w ≡ true → is_place_of c s (output c s w) ≡ true
output_own c s w f = output_passes c (is_place_of c s) s w f (each_own c s (places c s) (all_stand c s))
  where
    each_own : (c : Config) (s : ℕ) (ps : List Place) → AllStand c s ps → list_all (is_place_of c s) ps ≡ true
    each_own c s [] h = refl
    each_own c s (p ∷ ps) h = rw (h.0.place.among, each_own c s ps h.1) refl

pub read_own : (c : Config) (past : List Act) (s : ℕ) (p : Place) (n : ℕ) → p.session ≡ s → MayRead c past p n → is_place_of c s p ≡ true
read_own c past s p n own may =
    let e : p ≡ input c p.session (way_from p.side) = same_place_equal p (input c p.session (way_from p.side)) may.asks.is_input in
    subst (λ q. is_place_of c s q ≡ true) (sym (e ∙ ap (λ x. input c x (way_from p.side)) own)) (input_own c s (way_from p.side) (moves_formed c past p.session (way_from p.side) may.asks.moving))

pub offer_own : (c : Config) (past : List Act) (s : ℕ) (p : Place) → p.session ≡ s → MayOffer c past p → is_place_of c s p ≡ true
offer_own c past s p own may =
    let e : p ≡ output c p.session (way_to p.side) = same_place_equal p (output c p.session (way_to p.side)) may.is_output in
    subst (λ q. is_place_of c s q ≡ true) (sym (e ∙ ap (λ x. output c x (way_to p.side)) own)) (output_own c s (way_to p.side) (moves_formed c past p.session (way_to p.side) may.moving))

-- ---- what a transfer may be, where it is, and what it moves

pub transfer_may : (c : Config) (n : ℕ) (past : List Act) (p : Place) (waiting : List ℕ) (t : Transfer) → MayTransfer c past p waiting t → (MayTryWrite c past p → (count : ℕ) → TakesFrom c p waiting count → MayWrite c past p (take count waiting)) → owed c past ≡ None → May c n past (transfer_act p waiting t)
transfer_may c n past p waiting (transfers.Read bytes) may write o = (o, may)
transfer_may c n past p waiting transfers.ReadEmpty may write o = (o, may)
transfer_may c n past p waiting transfers.ReadEnd may write o = (o, may)
transfer_may c n past p waiting transfers.ReadNotYet may write o = (o, may)
transfer_may c n past p waiting transfers.ReadFailed may write o = (o, may)
transfer_may c n past p waiting (transfers.Wrote count) may write o = (o, write may.0 count may.1)
transfer_may c n past p waiting transfers.WriteNotYet may write o = (o, may)
transfer_may c n past p waiting transfers.WriteFailed may write o = (o, may)
transfer_may c n past p waiting (transfers.Shut how) may write o = (o, may)
transfer_may c n past p waiting (transfers.ShutFailed how) may write o = (o, may)

pub transfer_quiet : (p : Place) (waiting : List ℕ) (t : Transfer) → keeps_quiet (transfer_act p waiting t) ≡ true
transfer_quiet p waiting (transfers.Read bytes) = refl
transfer_quiet p waiting transfers.ReadEmpty = refl
transfer_quiet p waiting transfers.ReadEnd = refl
transfer_quiet p waiting transfers.ReadNotYet = refl
transfer_quiet p waiting transfers.ReadFailed = refl
transfer_quiet p waiting (transfers.Wrote count) = refl
transfer_quiet p waiting transfers.WriteNotYet = refl
transfer_quiet p waiting transfers.WriteFailed = refl
transfer_quiet p waiting (transfers.Shut how) = refl
transfer_quiet p waiting (transfers.ShutFailed how) = refl

pub transfer_away : (c : Config) (s : ℕ) (past : List Act) (p : Place) (waiting : List ℕ) (t : Transfer) → held (transfer_act p waiting t ∷ past) (home c s) ≡ held past (home c s)
transfer_away c s past p waiting (transfers.Read bytes) = refl
transfer_away c s past p waiting transfers.ReadEmpty = refl
transfer_away c s past p waiting transfers.ReadEnd = refl
transfer_away c s past p waiting transfers.ReadNotYet = refl
transfer_away c s past p waiting transfers.ReadFailed = refl
transfer_away c s past p waiting (transfers.Wrote count) = refl
transfer_away c s past p waiting transfers.WriteNotYet = refl
transfer_away c s past p waiting transfers.WriteFailed = refl
transfer_away c s past p waiting (transfers.Shut how) = refl
transfer_away c s past p waiting (transfers.ShutFailed how) = refl

pub transfer_now : (past : List Act) (p : Place) (waiting : List ℕ) (t : Transfer) → now (transfer_act p waiting t ∷ past) ≡ now past
transfer_now past p waiting (transfers.Read bytes) = refl
transfer_now past p waiting transfers.ReadEmpty = refl
transfer_now past p waiting transfers.ReadEnd = refl
transfer_now past p waiting transfers.ReadNotYet = refl
transfer_now past p waiting transfers.ReadFailed = refl
transfer_now past p waiting (transfers.Wrote count) = refl
transfer_now past p waiting transfers.WriteNotYet = refl
transfer_now past p waiting transfers.WriteFailed = refl
transfer_now past p waiting (transfers.Shut how) = refl
transfer_now past p waiting (transfers.ShutFailed how) = refl

pub transfer_untouched : (c : Config) (s : ℕ) (p : Place) (waiting : List ℕ) (t : Transfer) → touches c s (transfer_act p waiting t) ≡ false
transfer_untouched c s p waiting (transfers.Read bytes) = refl
transfer_untouched c s p waiting transfers.ReadEmpty = refl
transfer_untouched c s p waiting transfers.ReadEnd = refl
transfer_untouched c s p waiting transfers.ReadNotYet = refl
transfer_untouched c s p waiting transfers.ReadFailed = refl
transfer_untouched c s p waiting (transfers.Wrote count) = refl
transfer_untouched c s p waiting transfers.WriteNotYet = refl
transfer_untouched c s p waiting transfers.WriteFailed = refl
transfer_untouched c s p waiting (transfers.Shut how) = refl
transfer_untouched c s p waiting (transfers.ShutFailed how) = refl

or_true : (a : Bool) → (a || true) ≡ true
or_true true = refl
or_true false = refl

or_false : (a : Bool) → (a || false) ≡ a
or_false true = refl
or_false false = refl

pub transfer_faulted : (c : Config) (past : List Act) (s : ℕ) (p : Place) (waiting : List ℕ) (t : Transfer) (before : Bool) → p.session ≡ s → MayTransfer c past p waiting t → before ≡ fault_stands c past s → (before || is_fault t) ≡ fault_stands c (transfer_act p waiting t ∷ past) s
transfer_faulted c past s p waiting (transfers.Read bytes) before own may was = or_false before ∙ was
transfer_faulted c past s p waiting transfers.ReadEmpty before own may was = or_false before ∙ was
transfer_faulted c past s p waiting transfers.ReadEnd before own may was = or_false before ∙ was
transfer_faulted c past s p waiting transfers.ReadNotYet before own may was = or_false before ∙ was
transfer_faulted c past s p waiting transfers.ReadFailed before own may was = or_true before ∙ sym (read_fault_stands c past s p (read_own c past s p 1 own may))
transfer_faulted c past s p waiting (transfers.Wrote count) before own may was = or_false before ∙ was
transfer_faulted c past s p waiting transfers.WriteNotYet before own may was = or_false before ∙ was
transfer_faulted c past s p waiting transfers.WriteFailed before own may was = or_true before ∙ sym (write_fault_stands c past s p (offer_own c past s p own may.offers))
transfer_faulted c past s p waiting (transfers.Shut how) before own may was = or_false before ∙ was
transfer_faulted c past s p waiting (transfers.ShutFailed how) before own may was = or_false before ∙ was

-- ---- a failed accepting

failed_here : (past : List Act) (d : Place) (ds : List Place) → list_any (same_place d) ds ≡ true → list_any (accept_failed (acts.AcceptFailed d ∷ past)) ds ≡ true
failed_here past d [] e = absurd (false≢true e)
failed_here past d (x ∷ ds) e = go (same_place d x) (accept_failed past x) (list_any (same_place d) ds) e (failed_here past d ds)
  where
    go : (a b r : Bool) → (a || r) ≡ true → (r ≡ true → list_any (accept_failed (acts.AcceptFailed d ∷ past)) ds ≡ true) → ((a || b) || list_any (accept_failed (acts.AcceptFailed d ∷ past)) ds) ≡ true
    go true b r f ih = refl
    go false true r f ih = refl
    go false false r f ih = ih f

further : (a b : Bool) → b ≡ true → (a || b) ≡ true
further true b e = refl
further false b e = e

by_accept : (c : Config) (past : List Act) (s : ℕ) → closed_why c past s ≡ None → memory_said past ≡ false → stop_said past ≡ false → accept_failed_for c past s ≡ true → cause c past s ≡ Some whys.AcceptFailed
by_accept c past s u m t e = rw (u, m, t, e) refl

pub accept_cause : (c : Config) (past : List Act) (s : ℕ) (d : Place) → Quiet c past s → list_any (same_place d) (own_doors c s) ≡ true → cause c (acts.AcceptFailed d ∷ past) s ≡ Some whys.AcceptFailed
accept_cause c past s d q own =
    let e : accept_failed_for c (acts.AcceptFailed d ∷ past) s ≡ true = further (has_fork c && accept_failed (acts.AcceptFailed d ∷ past) program_door) (list_any (accept_failed (acts.AcceptFailed d ∷ past)) (own_doors c s)) (failed_here past d (own_doors c s) own) in
    by_accept c (acts.AcceptFailed d ∷ past) s q.unclosed q.remembered q.unstopped e

pub by_stop : (c : Config) (past : List Act) (s : ℕ) → closed_why c past s ≡ None → memory_said past ≡ false → stop_said past ≡ true → cause c past s ≡ Some whys.Stopped
by_stop c past s u m t = rw (u, m, t) refl

pub accept_ends : (c : Config) (n : ℕ) (past : List Act) (s : ℕ) (st : State) (d p : Place) → Fields c n past s st → st.ending ≡ None → call c past s ≡ Accept d p → Ends c n (acts.AcceptFailed d ∷ past) s whys.AcceptFailed
accept_ends c n past s st d p f e h = inl (accept_cause c past s d (quiet_while c n past s st.ending f.ending_is e).0 (own_of c n past s st (Accept d p) f e h).0.among)

-- ---- closings

ends_not : (b : Bool) → b ≡ true → (true && not (b && true)) ≡ false
ends_not true e = refl
ends_not false e = absurd (false≢true e)

-- what closes for a call leaves the session quiet
called_off : (c : Config) (n : ℕ) (past : List Act) (s : ℕ) (st : State) (q : Place) (why : Why) → Fields c n past s st → st.ending ≡ None → ClosesFor c past s None q why → Quiet c (acts.Closed q why ∷ past) s
called_off c n past s st q why f e (inl k) = rw k.0 (quiet_closed c past s q whys.Refused refl refl refl (quiet_while c n past s st.ending f.ending_is e).0)
called_off c n past s st q why f e (inr k) = rw k.0 (quiet_closed c past s q whys.Served (ends_not q.door (own_of c n past s st (Serve q) f e k.1).door) refl refl (quiet_while c n past s st.ending f.ending_is e).0)

-- what isn't closed for an end of the session isn't its home
no_refusal : (a b d e g h i j k : Bool) → first_some (None ∷ only_if a whys.Memory ∷ only_if b whys.Stopped ∷ only_if d whys.AcceptFailed ∷ only_if e whys.ListenFailed ∷ only_if g whys.OpenFailed ∷ only_if h whys.Faulted ∷ only_if i whys.Finished ∷ only_if j whys.ClosingTime ∷ only_if k whys.Idle ∷ []) ≡ Some whys.Refused → ⊥
no_refusal true b d e g h i j k x = cc
no_refusal false true d e g h i j k x = cc
no_refusal false false true e g h i j k x = cc
no_refusal false false false true g h i j k x = cc
no_refusal false false false false true h i j k x = cc
no_refusal false false false false false true i j k x = cc
no_refusal false false false false false false true j k x = cc
no_refusal false false false false false false false true k x = cc
no_refusal false false false false false false false false true x = cc
no_refusal false false false false false false false false false x = cc

never_refused : (c : Config) (past : List Act) (s : ℕ) → closed_why c past s ≡ None → cause c past s ≡ Some whys.Refused → ⊥
never_refused c past s u e =
    no_refusal (memory_said past) (stop_said past) (accept_failed_for c past s) (listening_failed c past s) (opening_failed c past s) (faulted c past s) (finished c past s) (ready c past s && reached (closing_moment c past s) (now past)) (ready c past s && reached (idle_moment c past s) (now past))
    (subst (λ (k : Option Why). first_some (k ∷ only_if (memory_said past) whys.Memory ∷ only_if (stop_said past) whys.Stopped ∷ only_if (accept_failed_for c past s) whys.AcceptFailed ∷ only_if (listening_failed c past s) whys.ListenFailed ∷ only_if (opening_failed c past s) whys.OpenFailed ∷ only_if (faulted c past s) whys.Faulted ∷ only_if (finished c past s) whys.Finished ∷ only_if (ready c past s && reached (closing_moment c past s) (now past)) whys.ClosingTime ∷ only_if (ready c past s && reached (idle_moment c past s) (now past)) whys.Idle ∷ []) ≡ Some whys.Refused) u e)

negated : (b : Bool) → not b ≡ false → b ≡ true
negated true e = refl
negated false e = absurd (false≢true (sym e))

third : (a b d e : Bool) → d ≡ false → (a && b && d && e) ≡ false
third a b true e h = absurd (false≢true (sym h))
third a b false e h = ap (λ x. x && e) (and_right (a && b) false refl)

door_apart : (c : Config) (s : ℕ) (q : Place) → q.door ≡ true → same_place q (home c s) ≡ false
door_apart c s q e = third (same_side q.side Left) (same_part q.part (home c s).part) (same_bool q.door false) (q.session == s) (ap (λ b. same_bool b false) e)

unclosed_before : (b : Bool) (why : Why) (before : Option Why) → cond b (Some why) before ≡ None → (b ≡ false) × (before ≡ None)
unclosed_before true why before e = let x : ⊥ = cc in absurd x
unclosed_before false why before e = (refl, e)

home_closed : (c : Config) (n : ℕ) (past : List Act) (s : ℕ) (q : Place) (why : Why) (old : State) → Fields c n past s old → Closes c n past s q why → ClosesFor c past s old.ending q why → has_fork c ≡ true → closed_why c (acts.Closed q why ∷ past) s ≡ None → held (acts.Closed q why ∷ past) (home c s) ≡ true
home_closed c n past s q why old f closes for fork u = go old.ending refl for
  where
    parts : ((is_of c s q && is_end q why) ≡ false) × (closed_why c past s ≡ None)
    parts = unclosed_before (is_of c s q && is_end q why) why (closed_why c past s) u

    before : held past (home c s) ≡ true
    before = f.ground.home_held fork parts.1

    unended : is_end q why ≡ false
    unended = ap (λ (b : Bool). b && is_end q why) (sym closes.own) ∙ parts.0

    go : (e : Option Why) → old.ending ≡ e → ClosesFor c past s e q why → held (acts.Closed q why ∷ past) (home c s) ≡ true
    go None e (inl k) = held_away c past s (Refuse q) q (acts.Closed q why) f.ground.fit k.1 refl refl (λ p x. x) fork ∙ before
    go None e (inr k) = held_away c past s (Serve q) q (acts.Closed q why) f.ground.fit k.1 refl refl (λ p x. x) fork ∙ before
    go (Some w) e k =
        let ends : Ends c n past s why = subst (Ends c n past s) k (subst (EndingIs c n past s) e f.ending_is) in
        which (same_why why whys.Refused) refl (closed_cause c n past s q why closes.own ends)
      where
        which : (b : Bool) → same_why why whys.Refused ≡ b → cause c (acts.Closed q why ∷ past) s ≡ Some why → held (acts.Closed q why ∷ past) (home c s) ≡ true
        which true r x = absurd (never_refused c (acts.Closed q why ∷ past) s u (x ∙ ap Some (why_refused why r)))
        which false r x =
            let t : (q.door && same_why why whys.Served) ≡ true = negated (q.door && same_why why whys.Served) (ap (λ (b : Bool). not b && not (q.door && same_why why whys.Served)) (sym r) ∙ unended) in
            ap (λ (b : Bool). holds_at (cond b (Gone why) (stage past (home c s)))) (door_apart c s q (and_parts q.door (same_why why whys.Served) t).0) ∙ before

pub closed_step : (c : Config) (n : ℕ) (past : List Act) (s : ℕ) (q : Place) (why : Why) (old mid new : State) → Fields c n past s old → Closes c n past s q why → ClosesFor c past s old.ending q why →
    Steady old mid → AreOpenings c (acts.Closed q why ∷ past) s mid.openings → AreLanes c (acts.Closed q why ∷ past) s mid.lanes → mid.moved ≡ old.moved → mid.faulted ≡ old.faulted → EndsAs mid new →
    ((w : Why) → old.ending ≡ Some w → new.ending ≡ Some w) → (old.ending ≡ None → Ground c (acts.Closed q why ∷ past) s mid → Quiet c (acts.Closed q why ∷ past) s → new.ending ≡ cause c (acts.Closed q why ∷ past) s) →
    steps_in mid.openings < steps_in old.openings → lanes_steps mid.lanes ≡ lanes_steps old.lanes → Absorbed c n past s (acts.Closed q why) old new
closed_step c n past s q why old mid new f closes for same openings lanes move fault again ended going fewer lanes_same =
    let g = ground_after c past (acts.Closed q why ∷ past) s old mid f.ground f.ground.begun (home_closed c n past s q why old f closes for) refl same openings lanes (move ∙ f.ground.moved_is) (fault ∙ f.ground.faulted_is) in
    record {
      may = λ o. record { is_held = closes.is_held; licensed = closes.licensed; timely = inl o };
      fields = record { ground = ground_again c (acts.Closed q why ∷ past) s mid new g again; ending_is = go old.ending refl g };
      fewer = subst (λ k. k < steps_of old) (sym (steps_again mid new again)) (less_left (steps_in old.openings) (steps_in mid.openings) (lanes_steps old.lanes) (lanes_steps mid.lanes) fewer lanes_same);
    }
  where
    go : (e : Option Why) → old.ending ≡ e → Ground c (acts.Closed q why ∷ past) s mid → EndingIs c n (acts.Closed q why ∷ past) s new.ending
    go None e g =
        let quiet = called_off c n past s old q why f e (subst (λ x. ClosesFor c past s x q why) e for) in
        ending_of c n (acts.Closed q why ∷ past) s new.ending (going e g quiet) quiet
    go (Some w) e g =
        let is : w ≡ why = subst (λ x. ClosesFor c past s x q why) e for in
        let ends : Ends c n past s why = subst (Ends c n past s) is (subst (EndingIs c n past s) e f.ending_is) in
        subst (EndingIs c n (acts.Closed q why ∷ past) s) (sym (ended w e ∙ ap Some is)) (inl (closed_cause c n past s q why closes.own ends))

-- ---- reapings

rest_after : (c : Config) (past : List Act) (p : Place) (end : ChildEnd) → Rest c past → Rest c (acts.Reaped p end ∷ past)
rest_after c past p end r =
    record {
      no_outcome = r.no_outcome;
      no_dump = refl;
      sessions = λ s. let k = r.sessions s in record { ended = k.ended; no_call = k.no_call; read_tried = k.read_tried; write_tried = k.write_tried; passed_on = k.passed_on; accept_tried = k.accept_tried };
      door = record { ended = r.door.ended; no_call = r.door.no_call; accept_tried = r.door.accept_tried };
    }

ends_after : (c : Config) (n : ℕ) (past : List Act) (s : ℕ) (p : Place) (end : ChildEnd) (why : Why) → Ends c n past s why → Ends c n (acts.Reaped p end ∷ past) s why
ends_after c n past s p end why (inl e) = inl e
ends_after c n past s p end why (inr (inl e)) = inr (inl e)
ends_after c n past s p end why (inr (inr e)) = inr (inr (e.0, e.1, rest_after c past p end e.2))

pub reaped_ending : (c : Config) (n : ℕ) (past : List Act) (s : ℕ) (p : Place) (end : ChildEnd) (e : Option Why) → is_some e ≡ true → EndingIs c n past s e → EndingIs c n (acts.Reaped p end ∷ past) s e
reaped_ending c n past s p end None h x = absurd (false≢true h)
reaped_ending c n past s p end (Some why) h x = ends_after c n past s p end why x

pub reaped_step : (c : Config) (n : ℕ) (past : List Act) (s : ℕ) (p : Place) (end : ChildEnd) (old new : State) → Fields c n past s old → (owed c past ≡ None → May c n past (acts.Reaped p end)) → is_some old.ending ≡ true →
    Steady old new → AreOpenings c (acts.Reaped p end ∷ past) s new.openings → AreLanes c (acts.Reaped p end ∷ past) s new.lanes → new.moved ≡ old.moved → new.faulted ≡ old.faulted → new.ending ≡ old.ending →
    steps_in new.openings < steps_in old.openings → lanes_steps new.lanes ≡ lanes_steps old.lanes → Absorbed c n past s (acts.Reaped p end) old new
reaped_step c n past s p end old new f may h same openings lanes move fault ending fewer lanes_same =
    record {
      may = may;
      fields = record {
        ground = ground_after c past (acts.Reaped p end ∷ past) s old new f.ground f.ground.begun f.ground.home_held refl same openings lanes (move ∙ f.ground.moved_is) (fault ∙ f.ground.faulted_is);
        ending_is = subst (EndingIs c n (acts.Reaped p end ∷ past) s) (sym ending) (reaped_ending c n past s p end old.ending h f.ending_is);
      };
      fewer = less_left (steps_in old.openings) (steps_in new.openings) (lanes_steps old.lanes) (lanes_steps new.lanes) fewer lanes_same;
    }

-- a child that isn't there is no act
pub childless_step : (c : Config) (n : ℕ) (past : List Act) (s : ℕ) (old new : State) → Fields c n past s old → Steady old new → AreOpenings c past s new.openings → new.lanes ≡ old.lanes → new.moved ≡ old.moved → new.faulted ≡ old.faulted → new.ending ≡ old.ending →
    steps_in new.openings < steps_in old.openings → Fields c n past s new × (steps_of new < steps_of old)
childless_step c n past s old new f same openings lanes move fault ending fewer = (
  record {
    ground = ground_after c past past s old new f.ground f.ground.begun f.ground.home_held refl same openings (subst (AreLanes c past s) (sym lanes) f.ground.lanes_are) (move ∙ f.ground.moved_is) (fault ∙ f.ground.faulted_is);
    ending_is = subst (EndingIs c n past s) (sym ending) f.ending_is;
  },
  less_left (steps_in old.openings) (steps_in new.openings) (lanes_steps old.lanes) (lanes_steps new.lanes) fewer (ap lanes_steps lanes),
)

-- ---- turns

pub ground_step : (c : Config) (past later : List Act) (s : ℕ) (old mid : State) → Ground c past s old → s < numbers c later → (has_fork c ≡ true → closed_why c later s ≡ None → held later (home c s) ≡ true) → AreOpenings c later s mid.openings → AreLanes c later s mid.lanes → mid.clock ≡ now later → mid.moved ≡ moved_at c later s → mid.faulted ≡ fault_stands c later s →
    mid.closing ≡ old.closing → mid.idle ≡ old.idle → mid.sloppy ≡ old.sloppy → Ground c later s mid
ground_step c past later s old mid o begun home_held openings lanes clock move fault closing idle sloppy =
    record { fit = o.fit; begun = begun; home_held = home_held; openings_are = openings; lanes_are = lanes; clock_is = clock; moved_is = move; faulted_is = fault; closing_is = closing ∙ o.closing_is; idle_is = idle ∙ o.idle_is; sloppy_is = sloppy ∙ o.sloppy_is }

-- what ends it has been worked out
pub heeds_now : (c : Config) (past : List Act) (s : ℕ) (mid new : State) → Ground c past s mid → EndsAs mid new → Quiet c past s → (Ground c past s mid → Quiet c past s → new.ending ≡ cause c past s) → Heeds c past s new
heeds_now c past s mid new g again q ending = record { ground = ground_again c past s mid new g again; quiet = q; ending_is = ending g q }

pub heeds_step : (c : Config) (past later : List Act) (s : ℕ) (old mid new : State) → Ground c past s old → s < numbers c later → (has_fork c ≡ true → closed_why c later s ≡ None → held later (home c s) ≡ true) → AreOpenings c later s mid.openings → AreLanes c later s mid.lanes → mid.clock ≡ now later → mid.moved ≡ moved_at c later s → mid.faulted ≡ fault_stands c later s →
    mid.closing ≡ old.closing → mid.idle ≡ old.idle → mid.sloppy ≡ old.sloppy → EndsAs mid new → Quiet c later s → (Ground c later s mid → Quiet c later s → new.ending ≡ cause c later s) → Heeds c later s new
heeds_step c past later s old mid new o begun home_held openings lanes clock move fault closing idle sloppy again q ending =
    heeds_now c later s mid new (ground_step c past later s old mid o begun home_held openings lanes clock move fault closing idle sloppy) again q ending

-- a stop that the last turn tells of
pub stop_step : (c : Config) (n : ℕ) (past : List Act) (s : ℕ) (until : Option ℕ) (at : ℕ) (names : List ReadyAt) (old new : State) → Ground c (acts.Turn until at (listed names) false ∷ past) s old → Quiet c (acts.Turn until at (listed names) false ∷ past) s →
    AreOpenings c (acts.Turn until at (listed names) true ∷ past) s new.openings → AreLanes c (acts.Turn until at (listed names) true ∷ past) s new.lanes → Steady old new → new.moved ≡ old.moved → new.faulted ≡ old.faulted → new.ending ≡ Some whys.Stopped →
    Fields c n (acts.Turn until at (listed names) true ∷ past) s new
stop_step c n past s until at names old new g quiet openings lanes same move fault ending =
    record {
      ground = ground_after c (acts.Turn until at (listed names) false ∷ past) (acts.Turn until at (listed names) true ∷ past) s old new g g.begun g.home_held refl same openings lanes (move ∙ g.moved_is) (fault ∙ g.faulted_is);
      ending_is = subst (EndingIs c n (acts.Turn until at (listed names) true ∷ past) s) (sym ending) (inl (by_stop c (acts.Turn until at (listed names) true ∷ past) s quiet.unclosed quiet.remembered refl));
    }

-- an early end
pub early_step : (c : Config) (n : ℕ) (past : List Act) (s : ℕ) (why : Why) (old new : State) → Ground c past s old → Ends c n past s why → EndsAs old new → new.ending ≡ Some why → Fields c n past s new
early_step c n past s why old new g ends again ending =
    record { ground = ground_again c past s old new g again; ending_is = subst (EndingIs c n past s) (sym ending) ends }

-- ---- transfers by wish

pub read_may : (c : Config) (past : List Act) (p : Place) (n k : ℕ) → MayRead c past p n → 1 ≤ k → k ≤ n → MayRead c past p k
read_may c past p n k may some within = record { asks = may.asks; some_bytes = some; in_room = omega (arith, may.in_room, within) }

pub write_at : (c : Config) (past : List Act) (s : ℕ) (lanes : Lanes) (p : Place) → AreLanes c past s lanes → p.session ≡ s → MayTryWrite c past p → (count : ℕ) → TakesFrom c p (waiting_at lanes p) count → MayWrite c past p (take count (waiting_at lanes p))
write_at c past s lanes p l own may count takes = go (way_to p.side) refl
  where
    at : p ≡ output c s (way_to p.side)
    at = same_place_equal p (output c p.session (way_to p.side)) may.offers.is_output ∙ ap (λ x. output c x (way_to p.side)) own

    one : (w : Way) (lane : SessionLane) → way_to p.side ≡ w → IsLane c past s w lane → waiting_at lanes p ≡ waiting_in lane → MayWrite c past p (take count (waiting_at lanes p))
    one w Unformed e k v = absurd (omega (arith, takes.some_bytes, subst (λ xs. count ≤ length xs) v takes.within))
    one w (Formed d) e k v =
        let q : p ≡ output c s w = at ∙ ap (output c s) e in
        let packets : is_some d.flow.lane.packets ≡ true → count ≡ length d.flow.backlog = λ h. subst (λ xs. count ≡ length xs) v (takes.whole (ap (keeps_borders c) e ∙ (sym (packets_are c w d.flow.lane k.flow_is.lane_is) ∙ h))) in
        let done : MayWrite c past (output c s w) (take count d.flow.backlog) = may_write_some c past s w d count takes.some_bytes (subst (λ xs. count ≤ length xs) v takes.within) packets k (subst (MayOffer c past) q may.offers) in
        subst (λ xs. MayWrite c past p (take count xs)) (sym v) (subst (λ x. MayWrite c past x (take count d.flow.backlog)) (sym q) done)

    go : (w : Way) → way_to p.side ≡ w → MayWrite c past p (take count (waiting_at lanes p))
    go LeftToRight e = one LeftToRight lanes.to_right e l.to_right_is (ap (λ v. waiting_in (lane_at lanes v)) e)
    go RightToLeft e = one RightToLeft lanes.to_left e l.to_left_is (ap (λ v. waiting_in (lane_at lanes v)) e)

-- further names of a turn change nothing of what ends a session
pub quiet_names : (c : Config) (past : List Act) (s : ℕ) (until : Option ℕ) (at : ℕ) (names more : List ReadyAt) → Quiet c (acts.Turn until at (listed names) false ∷ past) s → Quiet c (acts.Turn until at (listed more) false ∷ past) s
quiet_names c past s until at names more q = record { unclosed = q.unclosed; remembered = q.remembered; unstopped = q.unstopped; accepts = q.accepts }

-- ---- the transfers that answers are

pub reads_bytes : (c : Config) (past : List Act) (s : ℕ) (p : Place) (n k : ℕ) → ReadsAt c past s p n → (0 < k) × (k ≤ n) → MayRead c past p k
reads_bytes c past s p n k r fits = read_may c past p n k r.may (omega (arith, fits.0)) fits.1

pub reads_one : (c : Config) (past : List Act) (s : ℕ) (p : Place) (n : ℕ) → ReadsAt c past s p n → MayRead c past p 1
reads_one c past s p n r = read_may c past p n 1 r.may (omega arith) r.may.some_bytes

pub takes_some : (c : Config) (past : List Act) (s : ℕ) (p : Place) (waiting : List ℕ) (count : ℕ) → Offers c past s p false → (0 < count) × (count ≤ length waiting) → TakesFrom c p waiting count
takes_some c past s p waiting count o fits = record { some_bytes = omega (arith, fits.0); within = fits.1; whole = λ h. absurd (false≢true (sym o.keeps ∙ h)) }

pub takes_all : (c : Config) (past : List Act) (s : ℕ) (p : Place) (waiting : List ℕ) (count : ℕ) → Offers c past s p true → (0 < count) × (count ≡ length waiting) → TakesFrom c p waiting count
takes_all c past s p waiting count o fits = record { some_bytes = omega (arith, fits.0); within = omega (arith, fits.1); whole = λ h. fits.1 }

pub never_ended : {P : Type 0} (e : Option Why) → e ≡ None → is_some e ≡ true → P
never_ended e h f = absurd (false≢true (ap is_some (sym h) ∙ f))
