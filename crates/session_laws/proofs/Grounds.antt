-- Lists that say the same of a session leave what its state stands for.
use Rattle.std.proofs.Common.{◌≡◌, refl, sym, ap, subst, ◌∙◌, ℕ, Bool, true, false, not, ◌&&◌, ◌||◌, List, [], ◌∷◌, ◌++◌, Some, ◌<◌, None}
use Rattle.relay_model.specs.declared.places.Way.{Way}
use Rattle.relay_model.specs.declared.places.Way.TheVariants.{LeftToRight, RightToLeft}
use Rattle.relay_model.specs.declared.places.Place.{Place}
use Rattle.relay_model.specs.declared.commands.Config.{Config}
use Rattle.relay_model.specs.declared.acts.Act.{Act}
use Rattle.relay_model.specs.Places.{door_of}
use Rattle.relay_model.specs.Configs.{places, input, output, options_of, is_program_door}
use Rattle.relay_model.specs.History.{holds_at, now, failures, got, put}
use Rattle.relay_model.specs.Transfers.{over, due_pieces}
use Rattle.relay_model.specs.Sessions.{numbers}
use Rattle.relay_model.specs.Cause.{closed_why}
use Rattle.relay_model.specs.declared.places.Side.TheVariants.{Left}
use Rattle.relay_laws.proofs.OwnThings.{place_own, EachOwn, each_place, door_own, input_own, output_own}
use Rattle.relay_laws.proofs.Alike.{Alike}
use Rattle.retry_plan.specs.Plans.{PlanIs, last_of}
use Rattle.relay_buffer.specs.Flows.{IsFlow}
use Rattle.session_direction.specs.States.{DirectionState}
use Rattle.session_direction.specs.Directions.{IsDirection, terms_of, met_last, as_pieces}
use Rattle.place_openings.specs.declared.one_place.Opening.{Opening}
use Rattle.place_openings.specs.Stands.{IsOpening, Each, tried_at}
use Rattle.relay_session.specs.declared.states.State.{State}
use Rattle.relay_session.specs.declared.lanes.SessionLane.{SessionLane}
use Rattle.relay_session.specs.declared.lanes.SessionLane.TheVariants.{Unformed, Formed}
use Rattle.relay_session.specs.Lanes.{IsLane}
use Rattle.relay_session.specs.States.{Ground, home}
use Rattle.relay_model.specs.Arming.{asked_to_accept, asked_to_write}
use Rattle.relay_model.specs.Moments.{moved_at}
use Rattle.relay_model.specs.Frames.{SameAt}
use Rattle.relay_laws.proofs.Slept.{faults_by, idle_at, way_same}

-- two lists say the same of what a session's own things have come to, whatever ends it
pub record Near (c : Config) (s : ℕ) (one other : List Act) : Type 0 where
  pub begun : s < numbers c one
  pub unclosed : closed_why c one s ≡ None → closed_why c other s ≡ None
  pub own : (p : Place) → p.session ≡ s → is_program_door c p ≡ false → SameAt p one other
  pub now_same : now one ≡ now other
  pub moved_same : moved_at c one s ≡ moved_at c other s
  pub written : (w : Way) → asked_to_write one (input c s w) (output c s w) ≡ asked_to_write other (input c s w) (output c s w)
  pub accepted : (d : Place) → d.session ≡ s → is_program_door c d ≡ false → asked_to_accept c one d ≡ asked_to_accept c other d
  pub pieces : (w : Way) → due_pieces c one s w ≡ due_pieces c other s w

pub near : (c : Config) (s : ℕ) (one other : List Act) → s < numbers c one → Alike c s one other → Near c s one other
near c s one other b h = record { begun = b; unclosed = λ u. sym h.base.closed_same ∙ u; own = h.base.own; now_same = h.base.now_same; moved_same = h.base.moved_same; written = h.written; accepted = h.accepted; pieces = h.pieces }

-- the failures where tries are made
failures_same : (c : Config) (s : ℕ) (one other : List Act) (p : Place) → Near c s one other → p.session ≡ s → is_program_door c p ≡ false → (b : Bool) → (b ≡ true → is_program_door c (door_of p) ≡ false) → failures one (tried_at b p) ≡ failures other (tried_at b p)
failures_same c s one other p h e d true f = (h.own (door_of p) e (f refl)).failures_same
failures_same c s one other p h e d false f = (h.own p e d).failures_same

opening_alike : (c : Config) (s : ℕ) (one other : List Act) (p : Place) (o : Opening) → Near c s one other → p.session ≡ s → is_program_door c p ≡ false → IsOpening c other p o → IsOpening c one p o
opening_alike c s one other p o h e d g =
    let a = h.own p e d in
    let own : o.has_door ≡ true → is_program_door c (door_of p) ≡ false = λ b. door_own c p (sym g.has_door_is ∙ b) in
    let f = failures_same c s one other p h e d o.has_door own in
    record {
      no_door = g.no_door;
      place_is = g.place_is;
      listens_is = g.listens_is;
      has_door_is = g.has_door_is;
      is_child_is = g.is_child_is;
      filter_is = g.filter_is;
      stage_is = g.stage_is ∙ sym a.stage_same;
      woken_is = g.woken_is ∙ sym a.woken_same;
      door_is = λ b. g.door_is b ∙ sym (h.own (door_of p) e (own b)).stage_same;
      armed_is = λ b. g.armed_is b ∙ sym (h.own (door_of p) e (own b)).armed_to_accept_same;
      asked_is = λ b. g.asked_is b ∙ sym (h.accepted (door_of p) e (own b));
      tries_are = subst (λ (x : List ℕ). PlanIs (options_of c p).tries.retry (options_of c p).tries.forever (options_of c p).tries.interval x o.plan) (sym f) g.tries_are;
      tried_is = λ b. ap last_of f ∙ g.tried_is b ∙ ap Some (sym h.now_same);
      untried = λ b. a.failures_same ∙ g.untried b;
      closed_is = λ k. g.closed_is k ∙ sym a.was_closed_same;
      asked_child_is = λ b. g.asked_child_is (sym a.was_reaped_same ∙ b);
    }

each_alike : (c : Config) (s : ℕ) (one other : List Act) → Near c s one other → (ps : List Place) (os : List Opening) → EachOwn c s ps → Each c other ps os → Each c one ps os
each_alike c s one other h [] [] own g = g
each_alike c s one other h [] (o ∷ os) own g = g
each_alike c s one other h (p ∷ ps) [] own g = g
each_alike c s one other h (p ∷ ps) (o ∷ os) own g = (opening_alike c s one other p o h own.0 own.1 g.0, each_alike c s one other h ps os own.2 g.1)

direction_alike : (c : Config) (s : ℕ) (w : Way) (one other : List Act) (d : DirectionState) → Near c s one other → IsDirection c other s w d → IsDirection c one s w d
direction_alike c s w one other d h g =
    let i = h.own (input c s w) refl (input_own c s w) in
    let o = h.own (output c s w) refl (output_own c s w) in
    let k = way_same c s one other h.own h.pieces w in
    let x = i.met_end_same in
    let y = i.met_empty_same in
    let met : met_last c one s w ≡ met_last c other s w = λ j. x j && not (options_of c (input c s w)).input.ignoreeof || y j && (options_of c (input c s w)).input.null_eof in
    let v : over c one (input c s w) ≡ over c other (input c s w) = (idle_at c s one other (input c s w) i).over_same c in
    record {
      is_formed = g.is_formed;
      source_is = g.source_is;
      sink_is = g.sink_is;
      ignores_end_is = g.ignores_end_is;
      ends_at_empty_is = g.ends_at_empty_is;
      sloppy_is = g.sloppy_is;
      how_is = g.how_is;
      gathers_is = g.gathers_is;
      flow_is = subst (λ (a : List ℕ). IsFlow (terms_of c w) a (put one (output c s w)) d.flow) (sym i.got_same) (subst (λ (b : List ℕ). IsFlow (terms_of c w) (got other (input c s w)) b d.flow) (sym o.put_same) g.flow_is);
      arming_is = g.arming_is ∙ sym i.read_arming_same;
      armed_out_is = g.armed_out_is ∙ sym o.armed_to_write_same;
      asked_in_is = g.asked_in_is ∙ sym i.asked_to_read_same;
      asked_out_is = g.asked_out_is ∙ sym (h.written w);
      ended_is = g.ended_is ∙ sym met;
      passed_is = g.passed_is ∙ sym k.passed_at_same;
      broken_is = g.broken_is ∙ sym k.broken_at_same;
      pieces_are = λ b. h.pieces w ∙ g.pieces_are b ∙ ap (λ (z : List (List ℕ)). z ++ as_pieces d.flow.backlog) (sym o.sent_same);
      passed_is_spent = λ b. let t = g.passed_is_spent b in record { emptied = t.emptied; is_over = v ∙ t.is_over };
    }

lane_alike : (c : Config) (s : ℕ) (w : Way) (one other : List Act) (l : SessionLane) → Near c s one other → IsLane c other s w l → IsLane c one s w l
lane_alike c s w one other Unformed h g = g
lane_alike c s w one other (Formed d) h g = direction_alike c s w one other d h g

pub ground_near : (c : Config) (s : ℕ) (one other : List Act) (st : State) → Near c s one other → Ground c other s st → Ground c one s st
ground_near c s one other st h g = record {
  fit = g.fit;
  begun = h.begun;
  home_held = λ fork u. ap holds_at (h.own (home c s) refl (place_own c s Left (home c s).part)).stage_same ∙ g.home_held fork (h.unclosed u);
  openings_are = record { each = each_alike c s one other h (places c s) st.openings (each_place c s) g.openings_are.each };
  lanes_are = record { to_right_is = lane_alike c s LeftToRight one other st.lanes.to_right h g.lanes_are.to_right_is; to_left_is = lane_alike c s RightToLeft one other st.lanes.to_left h g.lanes_are.to_left_is; grant_is = g.lanes_are.grant_is; extra_within = g.lanes_are.extra_within };
  clock_is = g.clock_is ∙ sym h.now_same;
  moved_is = g.moved_is ∙ sym h.moved_same;
  faulted_is = g.faulted_is ∙ sym (faults_by c s one other h.own (places c s) (each_place c s));
  closing_is = g.closing_is;
  idle_is = g.idle_is;
  sloppy_is = g.sloppy_is;
}

pub ground_alike : (c : Config) (s : ℕ) (one other : List Act) (st : State) → s < numbers c one → Alike c s one other → Ground c other s st → Ground c one s st
ground_alike c s one other st b h g = ground_near c s one other st (near c s one other b h) g
