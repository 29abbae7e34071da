-- All that comes while a session sleeps is one turn that only sets the clock, or nothing.
use Rattle.std.proofs.Common.{◌≡◌, refl, sym, ◌∙◌, ap, subst, ℕ, ◌-◌, ◌^◌, ◌<◌, ◌≤◌, Bool, true, false, not, cond, ◌&&◌, ◌||◌, ◌==◌, length, List, [], ◌∷◌, ◌++◌, Option, None, is_some, arith, inl, inr, ◌⊎◌}
use Rattle.std.specs.List.{list_any}
use Rattle.relay_model.specs.declared.places.Way.{Way}
use Rattle.relay_model.specs.declared.places.Place.{Place}
use Rattle.relay_model.specs.declared.commands.Config.{Config}
use Rattle.relay_model.specs.declared.acts.Act.{Act}
use Rattle.relay_model.specs.declared.acts.Act.TheVariants.{Turn, Accepted}
use Rattle.relay_model.specs.Readiness.{Listed}
use Rattle.relay_model.specs.Choices.{or_else, one_more}
use Rattle.relay_model.specs.Configs.{places, input, output, options_of, keeps_borders, has_fork, is_program_door}
use Rattle.relay_model.specs.Conversions.{is_over, read_size, packet_size, packet_cap}
use Rattle.relay_model.specs.History.{now, turns, holds_at, is_gone_with}
use Rattle.relay_model.specs.declared.acts.Why.TheVariants as whys
use Rattle.relay_model.specs.Sessions.{admitted, is_admission, numbers}
use Rattle.relay_model.specs.Transfers.{due, over, backlog, due_pieces}
use Rattle.relay_model.specs.Cause.{fault_at}
use Rattle.relay_model.specs.Frames.{is_turn, SameAt, IsForeign, is_common, SameSession}
use Rattle.relay_laws.proofs.Apart.{base_step, write_step, accept_step, pieces_step, session_begun}
use Rattle.relay_laws.proofs.OwnThings.{input_own, output_own, EachOwn, each_place}
use Rattle.relay_laws.proofs.Alike.{seen, Alike, alike_kept, alike_itself, alike_turned, alike_joined}
use Rattle.relay_laws.specs.Sleeps.{IsBefore, IsQuiet, Since, just, foreign, quiet, tick, SameIdleAt, SameIdleWay, SameIdle}

no_turn : (c : Config) (act : Act) → is_common c act ≡ false → is_turn act ≡ false
no_turn c (Turn until at ready stop) k = let x : ⊥ = cc in absurd x
no_turn c act k = refl

pub same_turns : (c : Config) (act : Act) (past : List Act) → is_common c act ≡ false → turns (act ∷ past) ≡ turns past
same_turns c (Turn until at ready stop) past k = let x : ⊥ = cc in absurd x
same_turns c act past k = refl

-- an act of others
pub passes : (c : Config) (s : ℕ) (act : Act) (past : List Act) → IsForeign c s act → is_common c act ≡ false → Alike c s (act ∷ past) past
passes c s act past f k = record {
  base = base_step c act past s f k;
  written = λ w. write_step act past (input c s w) (output c s w) (no_turn c act k) (f (input c s w) refl (input_own c s w)) (f (output c s w) refl (output_own c s w));
  accepted = accept_step c act past s f (no_turn c act k);
  pieces = pieces_step c act past s f;
}

-- ---- a turn takes the place of a quiet one before it

overtaken_at : (p : Place) (wait : Option ℕ) (at : ℕ) (ready : Listed) (stop : Bool) (k : ℕ) (past : List Act) → SameAt p (Turn wait at ready stop ∷ tick k ∷ past) (Turn wait at ready stop ∷ past)
overtaken_at p wait at ready stop k past = record {
  stage_same = refl;
  failures_same = refl;
  woken_same = refl;
  accept_failed_same = refl;
  was_closed_same = refl;
  was_reaped_same = refl;
  reaped_since_same = refl;
  got_same = refl;
  put_same = refl;
  sent_same = refl;
  met_end_same = refl;
  met_empty_same = refl;
  shut_at_same = refl;
  read_fault_at_same = refl;
  write_fault_at_same = refl;
  read_arming_same = refl;
  armed_to_write_same = refl;
  armed_to_accept_same = refl;
  asked_to_read_same = refl;
}

pub overtaken : (c : Config) (s : ℕ) (wait : Option ℕ) (at : ℕ) (ready : Listed) (stop : Bool) (k : ℕ) (past : List Act) → Alike c s (Turn wait at ready stop ∷ tick k ∷ past) (Turn wait at ready stop ∷ past)
overtaken c s wait at ready stop k past = record {
  base = record { own = λ p e d. overtaken_at p wait at ready stop k past; now_same = refl; memory_same = refl; stop_same = refl; door_same = refl; closed_same = refl; moved_same = refl };
  written = λ w. refl;
  accepted = λ d e o. refl;
  pieces = λ w. refl;
}

-- a turn, as far as the session sees it, says the same as the turn itself
pub glimpsed : (c : Config) (s : ℕ) (wait : Option ℕ) (at : ℕ) (ready : Listed) (stop : Bool) (past : List Act) → Alike c s (Turn wait at ready stop ∷ past) (seen c s (Turn wait at ready stop) ∷ past)
glimpsed c s wait at ready stop past = alike_kept c s (Turn wait at ready stop) past past (alike_itself c s past)

-- two turns that show the session the same
pub same_turn : (c : Config) (s : ℕ) (wait : Option ℕ) (at : ℕ) (ready : Listed) (stop : Bool) (one other : List Act) → Alike c s one other → Alike c s (Turn wait at ready stop ∷ one) (Turn wait at ready stop ∷ other)
same_turn c s wait at ready stop one other h =
    alike_joined c s (Turn wait at ready stop ∷ one) (seen c s (Turn wait at ready stop) ∷ other) (Turn wait at ready stop ∷ other)
    (alike_kept c s (Turn wait at ready stop) one other h)
    (alike_turned c s (Turn wait at ready stop ∷ other) (seen c s (Turn wait at ready stop) ∷ other) (glimpsed c s wait at ready stop other))

-- a quiet turn shows the session a tick
ticks : (c : Config) (s : ℕ) (until : Option ℕ) (wait : Option ℕ) (at : ℕ) (ready : Listed) (stop : Bool) (past other : List Act) → IsQuiet c s until past at ready.entries stop → Alike c s past other → Alike c s (Turn wait at ready stop ∷ past) (tick at ∷ other)
ticks c s until wait at ready stop past other q h =
    let e = q.unnamed in
    let t = q.unstopped in
    subst (λ (x : Act). Alike c s (Turn wait at ready stop ∷ past) (x ∷ other)) (λ i. Turn None at (record { entries = e i; room = 0 }) (t i)) (alike_kept c s (Turn wait at ready stop) past other h)

-- ---- what came since

-- a tick to a moment before the end of the wait
pub record Ticked (c : Config) (s : ℕ) (until : Option ℕ) (slept past : List Act) (at : ℕ) : Type 0 where
  pub alike : Alike c s past (tick at ∷ slept)
  pub forward : now slept ≤ at
  pub on_clock : at < 2 ^ 64
  pub before : IsBefore at until

pub data Summed (c : Config) (s : ℕ) (until : Option ℕ) (slept past : List Act) : Type 0 where
  nothing : Alike c s past slept → turns past ≡ turns slept → Summed c s until slept past
  ticked : (at : ℕ) → Ticked c s until slept past at → Summed c s until slept past

and_foreign : (c : Config) (s : ℕ) (until : Option ℕ) (slept past : List Act) (act : Act) → Alike c s (act ∷ past) past → turns (act ∷ past) ≡ turns past → Summed c s until slept past → Summed c s until slept (act ∷ past)
and_foreign c s until slept past act p n (nothing h t) = nothing (alike_joined c s (act ∷ past) past slept p h) (n ∙ t)
and_foreign c s until slept past act p n (ticked at h) = ticked at (record { alike = alike_joined c s (act ∷ past) past (tick at ∷ slept) p h.alike; forward = h.forward; on_clock = h.on_clock; before = h.before })

and_quiet : (c : Config) (s : ℕ) (until : Option ℕ) (slept past : List Act) (wait : Option ℕ) (at : ℕ) (ready : Listed) (stop : Bool) → IsQuiet c s until past at ready.entries stop → Summed c s until slept past → Summed c s until slept (Turn wait at ready stop ∷ past)
and_quiet c s until slept past wait at ready stop q (nothing h t) =
    let n = h.base.now_same in
    let f = q.forward in
    ticked at (record { alike = ticks c s until wait at ready stop past slept q h; forward = omega (arith, n, f); on_clock = q.on_clock; before = q.before })
and_quiet c s until slept past wait at ready stop q (ticked k h) =
    let n : now past ≡ k = h.alike.base.now_same in
    let f = q.forward in
    let g = h.forward in
    ticked at
    (record {
      alike = alike_joined c s (Turn wait at ready stop ∷ past) (tick at ∷ tick k ∷ slept) (tick at ∷ slept) (ticks c s until wait at ready stop past (tick k ∷ slept) q h.alike) (overtaken c s None at (record { entries = []; room = 0 }) false k slept);
      forward = omega (arith, n, f, g);
      on_clock = q.on_clock;
      before = q.before;
    })

pub summed : (c : Config) (s : ℕ) (until : Option ℕ) (slept past : List Act) → Since c s until slept past → Summed c s until slept past
summed c s until slept all just = nothing (alike_itself c s slept) refl
summed c s until slept all (foreign act past f k h) = and_foreign c s until slept past act (passes c s act past f k) (same_turns c act past k) (summed c s until slept past h)
summed c s until slept all (quiet wait at ready stop past q h) = and_quiet c s until slept past wait at ready stop q (summed c s until slept past h)

-- ---- what is said of a session that slept

one_more_is : (b : Bool) (n s : ℕ) → s < n → s < one_more b n
one_more_is true n s h = omega arith
one_more_is false n s h = h

numbered : (fork b : Bool) (n s : ℕ) → s < cond fork n 1 → s < cond fork (one_more b n) 1
numbered true b n s h = one_more_is b n s h
numbered false b n s h = h

-- a session that has begun stays one
pub begun_step : (c : Config) (act : Act) (past : List Act) (s : ℕ) → s < numbers c past → s < numbers c (act ∷ past)
begun_step c (Accepted p peer) past s h = numbered (has_fork c) (is_admission c p peer) (admitted c past) s h
begun_step c act past s h = h

pub still_begun : (c : Config) (s : ℕ) (until : Option ℕ) (slept past : List Act) → Since c s until slept past → s < numbers c slept → s < numbers c past
still_begun c s until slept all just b = b
still_begun c s until slept all (foreign act past f k h) b = begun_step c act past s (still_begun c s until slept past h b)
still_begun c s until slept all (quiet wait at ready stop past q h) b = still_begun c s until slept past h b

pub session_alike : (c : Config) (s : ℕ) (one other : List Act) → s < numbers c one → s < numbers c other → Alike c s one other → SameSession c s one other
session_alike c s one other h k a = session_begun c s one other h k a.base a.written a.accepted a.pieces

-- the turn that wakes it takes the place of all quiet ones
pub woken_alike : (c : Config) (s : ℕ) (until : Option ℕ) (slept past : List Act) (wait : Option ℕ) (at : ℕ) (ready : Listed) (stop : Bool) → Summed c s until slept past → Alike c s (Turn wait at ready stop ∷ past) (Turn wait at ready stop ∷ slept)
woken_alike c s until slept past wait at ready stop (nothing h t) = same_turn c s wait at ready stop past slept h
woken_alike c s until slept past wait at ready stop (ticked k h) =
    alike_joined c s (Turn wait at ready stop ∷ past) (Turn wait at ready stop ∷ tick k ∷ slept) (Turn wait at ready stop ∷ slept) (same_turn c s wait at ready stop past (tick k ∷ slept) h.alike) (overtaken c s wait at ready stop k slept)

pub wakes : (c : Config) (s : ℕ) (until : Option ℕ) (slept past : List Act) (wait : Option ℕ) (at : ℕ) (ready : Listed) (stop : Bool) → s < numbers c slept → Since c s until slept past → SameSession c s (Turn wait at ready stop ∷ past) (Turn wait at ready stop ∷ slept)
wakes c s until slept past wait at ready stop b h =
    session_alike c s (Turn wait at ready stop ∷ past) (Turn wait at ready stop ∷ slept) (still_begun c s until slept past h b) b (woken_alike c s until slept past wait at ready stop (summed c s until slept past h))

-- ---- all but the clock and what was asked

pub idle_at : (c : Config) (s : ℕ) (one other : List Act) (p : Place) → SameAt p one other → SameIdleAt p one other
idle_at c s one other p h =
    let x = h.met_end_same in
    let y = h.met_empty_same in
    let g = h.got_same in
    record {
      stage_same = h.stage_same;
      held_same = ap holds_at h.stage_same;
      served_same = ap (is_gone_with whys.Served) h.stage_same;
      failures_same = h.failures_same;
      woken_same = h.woken_same;
      accept_failed_same = h.accept_failed_same;
      was_closed_same = h.was_closed_same;
      was_reaped_same = h.was_reaped_same;
      reaped_since_same = h.reaped_since_same;
      got_same = h.got_same;
      put_same = h.put_same;
      sent_same = h.sent_same;
      met_end_same = h.met_end_same;
      met_empty_same = h.met_empty_same;
      over_same = λ k i. x i && not (options_of k p).input.ignoreeof || y i && (options_of k p).input.null_eof || is_over (options_of k p).input.readbytes (options_of k p).input.escape (g i);
      shut_at_same = h.shut_at_same;
      read_fault_at_same = h.read_fault_at_same;
      write_fault_at_same = h.write_fault_at_same;
      read_arming_same = h.read_arming_same;
      armed_to_write_same = h.armed_to_write_same;
      armed_to_accept_same = h.armed_to_accept_same;
    }

-- what is said of the session's own places, and the pieces due, make what is said of its directions
pub way_same : (c : Config) (s : ℕ) (one other : List Act) → ((p : Place) → p.session ≡ s → is_program_door c p ≡ false → SameAt p one other) → ((w : Way) → due_pieces c one s w ≡ due_pieces c other s w) → (w : Way) → SameIdleWay c s w one other
way_same c s one other own pieces w =
    let i = own (input c s w) refl (input_own c s w) in
    let o = own (output c s w) refl (output_own c s w) in
    let v : over c one (input c s w) ≡ over c other (input c s w) = (idle_at c s one other (input c s w) i).over_same c in
    let g = i.got_same in
    let t = o.put_same in
    let k : backlog c one s w ≡ backlog c other s w = λ j. length (due c w (g j)) - length (t j) in
    let x = o.shut_at_same in
    let r = i.read_fault_at_same in
    let u = o.write_fault_at_same in
    record {
      pieces_same = pieces w;
      backlog_same = k;
      room_same =
          λ j. cond (keeps_borders c w)
          (packet_size c.block (packet_cap (options_of c (output c 0 w)).conv) (options_of c (input c 0 w)).input.readbytes (length (g j)) (k j))
          (read_size c.block (options_of c (input c 0 w)).input.readbytes (length (g j)) (k j));
      spent_same = λ j. v j && k j == 0;
      passed_at_same = x;
      broken_at_same = λ j. cond c.sloppy (or_else (r j) (u j)) None;
      done_at_same = λ j. or_else (x j) (cond c.sloppy (or_else (r j) (u j)) None);
    }

pub idle_way : (c : Config) (s : ℕ) (one other : List Act) → Alike c s one other → (w : Way) → SameIdleWay c s w one other
idle_way c s one other h = way_same c s one other h.base.own h.pieces

pub faults_by : (c : Config) (s : ℕ) (one other : List Act) → ((p : Place) → p.session ≡ s → is_program_door c p ≡ false → SameAt p one other) → (ps : List Place) → EachOwn c s ps → list_any (fault_at one) ps ≡ list_any (fault_at other) ps
faults_by c s one other at [] own = refl
faults_by c s one other at (p ∷ ps) own =
    let a = at p own.0 own.1 in
    let x = a.read_fault_at_same in
    let y = a.write_fault_at_same in
    let z = faults_by c s one other at ps own.2 in
    λ i. (is_some (x i) || is_some (y i)) || z i

pub idle : (c : Config) (s : ℕ) (one other : List Act) → s < numbers c one → s < numbers c other → Alike c s one other → SameIdle c s one other
idle c s one other b d h =
    let a = session_alike c s one other b d h in
    record {
      places_same = λ p e o. idle_at c s one other p (h.base.own p e o);
      ways_same = idle_way c s one other h;
      holds_same = a.holds_same;
      live_same = a.live_same;
      ready_same = a.ready_same;
      moved_same = a.moved_same;
      closing_moment_same = a.closing_moment_same;
      idle_moment_same = a.idle_moment_same;
      closed_why_same = h.base.closed_same;
      fault_stands_same = faults_by c s one other h.base.own (places c s) (each_place c s);
    }

-- a tick says of the rest what was said before
unticked : (c : Config) (s : ℕ) (past slept : List Act) (at : ℕ) → SameIdle c s past (tick at ∷ slept) → SameIdle c s past slept
unticked c s past slept at h = record {
  places_same = λ p e o. let a = h.places_same p e o in record {
    stage_same = a.stage_same;
    held_same = a.held_same;
    served_same = a.served_same;
    failures_same = a.failures_same;
    woken_same = a.woken_same;
    accept_failed_same = a.accept_failed_same;
    was_closed_same = a.was_closed_same;
    was_reaped_same = a.was_reaped_same;
    reaped_since_same = a.reaped_since_same;
    got_same = a.got_same;
    put_same = a.put_same;
    sent_same = a.sent_same;
    met_end_same = a.met_end_same;
    met_empty_same = a.met_empty_same;
    over_same = a.over_same;
    shut_at_same = a.shut_at_same;
    read_fault_at_same = a.read_fault_at_same;
    write_fault_at_same = a.write_fault_at_same;
    read_arming_same = a.read_arming_same;
    armed_to_write_same = a.armed_to_write_same;
    armed_to_accept_same = a.armed_to_accept_same;
  };
  ways_same = λ w. let a = h.ways_same w in record {
    pieces_same = a.pieces_same;
    backlog_same = a.backlog_same;
    room_same = a.room_same;
    spent_same = a.spent_same;
    passed_at_same = a.passed_at_same;
    broken_at_same = a.broken_at_same;
    done_at_same = a.done_at_same;
  };
  holds_same = h.holds_same;
  live_same = h.live_same;
  ready_same = h.ready_same;
  moved_same = h.moved_same;
  closing_moment_same = h.closing_moment_same;
  idle_moment_same = h.idle_moment_same;
  closed_why_same = h.closed_why_same;
  fault_stands_same = h.fault_stands_same;
}

idle_since : (c : Config) (s : ℕ) (until : Option ℕ) (slept past : List Act) → s < numbers c past → s < numbers c slept → Summed c s until slept past → SameIdle c s past slept
idle_since c s until slept past b d (nothing h t) = idle c s past slept b d h
idle_since c s until slept past b d (ticked at h) = unticked c s past slept at (idle c s past (tick at ∷ slept) b d h.alike)

pub through : (c : Config) (s : ℕ) (until : Option ℕ) (slept past : List Act) → s < numbers c slept → Since c s until slept past → SameIdle c s past slept
through c s until slept past b h = idle_since c s until slept past (still_begun c s until slept past h b) b (summed c s until slept past h)

-- ---- what comes then

all_kept : (c : Config) (s : ℕ) (act : Act) (one other : List Act) → Alike c s one other → Alike c s (act ∷ one) (act ∷ other)
all_kept c s act one other h =
    alike_joined c s (act ∷ one) (seen c s act ∷ other) (act ∷ other) (alike_kept c s act one other h) (alike_turned c s (act ∷ other) (seen c s act ∷ other) (alike_kept c s act other other (alike_itself c s other)))

pub newer_kept : (c : Config) (s : ℕ) (newer one other : List Act) → Alike c s one other → Alike c s (newer ++ one) (newer ++ other)
newer_kept c s [] one other h = h
newer_kept c s (act ∷ newer) one other h = all_kept c s act (newer ++ one) (newer ++ other) (newer_kept c s newer one other h)

begun_newer : (c : Config) (s : ℕ) (newer past : List Act) → s < numbers c past → s < numbers c (newer ++ past)
begun_newer c s [] past b = b
begun_newer c s (act ∷ newer) past b = begun_step c act (newer ++ past) s (begun_newer c s newer past b)

after_sum : (c : Config) (s : ℕ) (until : Option ℕ) (slept past newer : List Act) → s < numbers c past → s < numbers c slept → Summed c s until slept past →
    SameSession c s (newer ++ past) (newer ++ slept) ⊎ ((at : ℕ) × SameSession c s (newer ++ past) (newer ++ tick at ∷ slept))
after_sum c s until slept past newer b d (nothing h t) = inl (session_alike c s (newer ++ past) (newer ++ slept) (begun_newer c s newer past b) (begun_newer c s newer slept d) (newer_kept c s newer past slept h))
after_sum c s until slept past newer b d (ticked at h) = inr (at, session_alike c s (newer ++ past) (newer ++ tick at ∷ slept) (begun_newer c s newer past b) (begun_newer c s newer (tick at ∷ slept) d) (newer_kept c s newer past (tick at ∷ slept) h.alike))

pub is_tick : (c : Config) (s : ℕ) (until : Option ℕ) (slept past newer : List Act) → s < numbers c slept → Since c s until slept past →
    SameSession c s (newer ++ past) (newer ++ slept) ⊎ ((at : ℕ) × SameSession c s (newer ++ past) (newer ++ tick at ∷ slept))
is_tick c s until slept past newer b h = after_sum c s until slept past newer (still_begun c s until slept past h b) b (summed c s until slept past h)

-- after a quiet turn, what came is a tick to now
pub ticked_now : (c : Config) (s : ℕ) (until : Option ℕ) (slept past : List Act) → turns slept < turns past → Summed c s until slept past → Alike c s past (tick (now past) ∷ slept)
ticked_now c s until slept past l (nothing h t) = absurd (omega (arith, l, t))
ticked_now c s until slept past l (ticked at h) = subst (λ (k : ℕ). Alike c s past (tick k ∷ slept)) (sym h.alike.base.now_same) h.alike
