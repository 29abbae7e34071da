-- A session that rests until some moment goes on resting while it sleeps.
use Rattle.std.proofs.Common.{◌≡◌, refl, sym, ap, subst, ◌∙◌, ℕ, ◌^◌, ◌<◌, ◌≤◌, Bool, true, false, not, cond, ◌&&◌, ◌||◌, ◌==◌, nat_lt, List, [], ◌∷◌, Option, Some, None, is_some, is_none, arith}
use Rattle.std.proofs.lemmas.Bool.{false≢true, true≢false, and_right, or_parts, lt-ltb, eq-eqb}
use Rattle.relay_model.specs.declared.places.Way.{Way}
use Rattle.relay_model.specs.declared.places.Way.TheVariants.{LeftToRight, RightToLeft}
use Rattle.relay_model.specs.declared.commands.Config.{Config}
use Rattle.relay_model.specs.declared.acts.Act.{Act}
use Rattle.relay_model.specs.declared.acts.Why.{Why}
use Rattle.relay_model.specs.declared.acts.Why.TheVariants as whys
use Rattle.relay_model.specs.Choices.{only_if, or_else, first_some, earlier, later}
use Rattle.relay_model.specs.Configs.{places, input, output, has_fork}
use Rattle.relay_model.specs.History.{now, memory_said, stop_said}
use Rattle.relay_model.specs.Arming.{read_arming, is_armed, arming_moment, armed_to_read, armed_to_write}
use Rattle.relay_model.specs.Sessions.{holds, live, admitted, numbers}
use Rattle.relay_model.specs.Transfers.{over, backlog, is_spent}
use Rattle.relay_model.specs.Moments.{passed, closing_moment, idle_moment, reached}
use Rattle.relay_model.specs.Openings.{ready, first_call}
use Rattle.relay_model.specs.declared.calls.Call.{Call}
use Rattle.relay_model.specs.declared.calls.Call.TheVariants.{Nothing, TryAt, Open, Settle, Listen, Accept, Refuse, Serve}
use Rattle.relay_model.specs.Cause.{closed_why, accept_failed_for, listening_failed, opening_failed, faulted, finished, cause, running}
use Rattle.relay_model.specs.Calls.{call}
use Rattle.relay_model.specs.Rest.{goes, is_going, owes_read, owes_write, must_pass, accepts, presses, AcceptTried, SessionRests, way_work, session_work, try_moment, input_moment, timer_moment, session_moment}
use Rattle.relay_model.specs.Frames.{SameSession}
use Rattle.relay_laws.proofs.Apart.{moves_same, over_same, backlog_same, passing_same, cause_from}
use Rattle.relay_laws.proofs.OwnThings.{input_own}
use Rattle.relay_laws.proofs.Alike.{Alike}
use Rattle.relay_laws.specs.Sleeps.{IsBefore, Since, tick, RestsUntil, SleepsOn}
use Rattle.relay_laws.proofs.Before.{before_both, later_kept, reached_kept, reached_stays, arming_kept, Unhurried, first_kept}
use Rattle.relay_laws.proofs.Slept.{Summed, nothing, ticked, summed, still_begun, session_alike}

-- ---- a session that doesn't run and for which nothing is called

pub record IsStill (c : Config) (past : List Act) (s : ℕ) : Type 0 where
  pub stands : running c past s ≡ false
  pub silent : call c past s ≡ Nothing

no_first : (a b d : Bool) → a ≡ false → (a && b && d) ≡ false
no_first true b d e = absurd (true≢false e)
no_first false b d e = refl

no_first_of : (a b d e : Bool) → a ≡ false → (a && b && d && e) ≡ false
no_first_of true b d e h = absurd (true≢false h)
no_first_of false b d e h = refl

no_last : (a b d : Bool) → d ≡ false → (a && b && d) ≡ false
no_last a b d e = and_right (a && b) d e

still_moves : (c : Config) (past : List Act) (s : ℕ) (w : Way) → IsStill c past s → is_going c past s w ≡ false
still_moves c past s w q = and_right (goes c past s w) (running c past s) q.stands

still_read : (c : Config) (past : List Act) (s : ℕ) (w : Way) → IsStill c past s → owes_read c past s w ≡ false
still_read c past s w q = no_first_of (is_going c past s w) (armed_to_read past (input c s w)) (not (over c past (input c s w))) (backlog c past s w == 0) (still_moves c past s w q)

still_write : (c : Config) (past : List Act) (s : ℕ) (w : Way) → IsStill c past s → owes_write c past s w ≡ false
still_write c past s w q = no_first (is_going c past s w) (armed_to_write past (output c s w)) (nat_lt 0 (backlog c past s w)) (still_moves c past s w q)

still_rests : (c : Config) (past : List Act) (s : ℕ) → IsStill c past s → holds c past s ≡ false → SessionRests c past s
still_rests c past s q empty = record {
  ended = λ _. empty;
  no_call = ap presses q.silent;
  read_tried = λ w h. absurd (true≢false (sym h ∙ still_read c past s w q));
  write_tried = λ w h. absurd (true≢false (sym h ∙ still_write c past s w q));
  passed_on = λ w. no_first (is_going c past s w) (is_spent c past s w) (not (passed c past s w)) (still_moves c past s w q);
  accept_tried = subst (AcceptTried c past) (sym q.silent) tt;
}

still_work : (c : Config) (past : List Act) (s : ℕ) → IsStill c past s → session_work c past s ≡ false
still_work c past s q =
    let a = still_read c past s LeftToRight q in
    let b = still_write c past s LeftToRight q in
    let d = still_read c past s RightToLeft q in
    let e = still_write c past s RightToLeft q in
    let k = q.silent in
    λ i. (a i || b i) || (d i || e i) || accepts (k i)

still_input : (c : Config) (past : List Act) (s : ℕ) (w : Way) → IsStill c past s → input_moment c past s w ≡ None
still_input c past s w q = let m = still_moves c past s w q in λ i. cond (m i && not (over c past (input c s w))) (arming_moment (read_arming past (input c s w))) None

still_moment : (c : Config) (past : List Act) (s : ℕ) → IsStill c past s → session_moment c past s ≡ None
still_moment c past s q =
    let r = q.stands in
    let x = still_input c past s LeftToRight q in
    let y = still_input c past s RightToLeft q in
    let k = q.silent in
    λ i. earlier (cond (r i) (earlier (later (now past) (closing_moment c past s)) (later (now past) (idle_moment c past s))) None)
    (earlier (earlier (later (now past) (x i)) (later (now past) (y i))) (later (now past) (try_moment (k i))))

still_dead : (c : Config) (past : List Act) (s : ℕ) → live c past s ≡ false → IsStill c past s
still_dead c past s e = record {
  stands = no_first (live c past s) (ready c past s) (is_none (cause c past s)) e;
  silent = ap (λ l. cond (l && is_none (cause c past s)) (first_call c past (places c s)) Nothing) e;
}

none_of : (o : Option Why) → is_some o ≡ true → is_none o ≡ false
none_of (Some w) e = refl
none_of None e = absurd (false≢true e)

still_ended : (c : Config) (past : List Act) (s : ℕ) → is_some (cause c past s) ≡ true → IsStill c past s
still_ended c past s e =
    let n = none_of (cause c past s) e in
    record {
      stands = no_last (live c past s) (ready c past s) (is_none (cause c past s)) n;
      silent = ap (λ b. cond b (first_call c past (places c s)) Nothing) (and_right (live c past s) (is_none (cause c past s)) n);
    }

-- a session that has begun and doesn't live holds nothing
dead_empty : (fork : Bool) (s n : ℕ) (x : Bool) → s < cond fork n 1 → cond fork (nat_lt s n && x) (s == 0) ≡ false → x ≡ false
dead_empty true s n x h e = ap (λ b. b && x) (sym (lt-ltb s n h)) ∙ e
dead_empty false s n x h e = absurd (true≢false (sym (eq-eqb s 0 (omega (arith, h))) ∙ e))

-- ---- causes

none_parts : (x y : Option Why) → or_else x y ≡ None → (x ≡ None) × (y ≡ None)
none_parts None y e = (refl, e)
none_parts (Some w) y e = let x : ⊥ = cc in absurd x

unless_none : (b : Bool) (w : Why) → only_if b w ≡ None → b ≡ false
unless_none false w e = refl
unless_none true w e = let x : ⊥ = cc in absurd x

-- where nothing has ended a session, its timers weren't reached
no_timers : (o1 o2 o3 o4 o5 o6 o7 o8 : Option Why) (x y : Bool) → first_some (o1 ∷ o2 ∷ o3 ∷ o4 ∷ o5 ∷ o6 ∷ o7 ∷ o8 ∷ only_if x whys.ClosingTime ∷ only_if y whys.Idle ∷ []) ≡ None → (x ≡ false) × (y ≡ false)
no_timers o1 o2 o3 o4 o5 o6 o7 o8 x y e =
    let e1 = none_parts o1 (first_some (o2 ∷ o3 ∷ o4 ∷ o5 ∷ o6 ∷ o7 ∷ o8 ∷ only_if x whys.ClosingTime ∷ only_if y whys.Idle ∷ [])) e in
    let e2 = none_parts o2 (first_some (o3 ∷ o4 ∷ o5 ∷ o6 ∷ o7 ∷ o8 ∷ only_if x whys.ClosingTime ∷ only_if y whys.Idle ∷ [])) e1.1 in
    let e3 = none_parts o3 (first_some (o4 ∷ o5 ∷ o6 ∷ o7 ∷ o8 ∷ only_if x whys.ClosingTime ∷ only_if y whys.Idle ∷ [])) e2.1 in
    let e4 = none_parts o4 (first_some (o5 ∷ o6 ∷ o7 ∷ o8 ∷ only_if x whys.ClosingTime ∷ only_if y whys.Idle ∷ [])) e3.1 in
    let e5 = none_parts o5 (first_some (o6 ∷ o7 ∷ o8 ∷ only_if x whys.ClosingTime ∷ only_if y whys.Idle ∷ [])) e4.1 in
    let e6 = none_parts o6 (first_some (o7 ∷ o8 ∷ only_if x whys.ClosingTime ∷ only_if y whys.Idle ∷ [])) e5.1 in
    let e7 = none_parts o7 (first_some (o8 ∷ only_if x whys.ClosingTime ∷ only_if y whys.Idle ∷ [])) e6.1 in
    let e8 = none_parts o8 (first_some (only_if x whys.ClosingTime ∷ only_if y whys.Idle ∷ [])) e7.1 in
    let e9 = none_parts (only_if x whys.ClosingTime) (first_some (only_if y whys.Idle ∷ [])) e8.1 in
    let e10 = none_parts (only_if y whys.Idle) None e9.1 in
    (unless_none x whys.ClosingTime e9.0, unless_none y whys.Idle e10.0)

-- an end that has come stays, though it may become another
timers_stay : (a b d e : Bool) → (a ≡ true → d ≡ true) → (b ≡ true → e ≡ true) → is_some (first_some (only_if a whys.ClosingTime ∷ only_if b whys.Idle ∷ [])) ≡ true → is_some (first_some (only_if d whys.ClosingTime ∷ only_if e whys.Idle ∷ [])) ≡ true
timers_stay a b true e f g h = refl
timers_stay a b false true f g h = refl
timers_stay true b false false f g h = absurd (false≢true (f refl))
timers_stay false true false false f g h = absurd (false≢true (g refl))
timers_stay false false false false f g h = absurd (false≢true h)

causes_stay : (o1 o2 o3 o4 o5 o6 o7 o8 : Option Why) (a b d e : Bool) → (a ≡ true → d ≡ true) → (b ≡ true → e ≡ true) →
    is_some (first_some (o1 ∷ o2 ∷ o3 ∷ o4 ∷ o5 ∷ o6 ∷ o7 ∷ o8 ∷ only_if a whys.ClosingTime ∷ only_if b whys.Idle ∷ [])) ≡ true →
    is_some (first_some (o1 ∷ o2 ∷ o3 ∷ o4 ∷ o5 ∷ o6 ∷ o7 ∷ o8 ∷ only_if d whys.ClosingTime ∷ only_if e whys.Idle ∷ [])) ≡ true
causes_stay (Some w) o2 o3 o4 o5 o6 o7 o8 a b d e f g h = refl
causes_stay None (Some w) o3 o4 o5 o6 o7 o8 a b d e f g h = refl
causes_stay None None (Some w) o4 o5 o6 o7 o8 a b d e f g h = refl
causes_stay None None None (Some w) o5 o6 o7 o8 a b d e f g h = refl
causes_stay None None None None (Some w) o6 o7 o8 a b d e f g h = refl
causes_stay None None None None None (Some w) o7 o8 a b d e f g h = refl
causes_stay None None None None None None (Some w) o8 a b d e f g h = refl
causes_stay None None None None None None None (Some w) a b d e f g h = refl
causes_stay None None None None None None None None a b d e f g h = timers_stay a b d e f g h

and_stays : (r a d : Bool) → (a ≡ true → d ≡ true) → (r && a) ≡ true → (r && d) ≡ true
and_stays true a d f e = f e
and_stays false a d f e = e

ended_stays : (c : Config) (past : List Act) (s at : ℕ) → now past ≤ at → is_some (cause c past s) ≡ true → is_some (cause c (tick at ∷ past) s) ≡ true
ended_stays c past s at f e =
    causes_stay (closed_why c past s) (only_if (memory_said past) whys.Memory) (only_if (stop_said past) whys.Stopped) (only_if (accept_failed_for c past s) whys.AcceptFailed) (only_if (listening_failed c past s) whys.ListenFailed) (only_if (opening_failed c past s) whys.OpenFailed) (only_if (faulted c past s) whys.Faulted) (only_if (finished c past s) whys.Finished)
    (ready c past s && reached (closing_moment c past s) (now past)) (ready c past s && reached (idle_moment c past s) (now past)) (ready c past s && reached (closing_moment c past s) at) (ready c past s && reached (idle_moment c past s) at)
    (and_stays (ready c past s) (reached (closing_moment c past s) (now past)) (reached (closing_moment c past s) at) (reached_stays (now past) at (closing_moment c past s) f))
    (and_stays (ready c past s) (reached (idle_moment c past s) (now past)) (reached (idle_moment c past s) at) (reached_stays (now past) at (idle_moment c past s) f))
    e

-- ---- a session that lives and that nothing has ended

-- a tick before anything falls due
record Ticks (c : Config) (past : List Act) (s at : ℕ) : Type 0 where
  forward : now past ≤ at
  on_clock : at < 2 ^ 64
  before : IsBefore at (session_moment c past s)

before_parts : (c : Config) (past : List Act) (s at : ℕ) → IsBefore at (session_moment c past s) →
    IsBefore at (timer_moment c past s) × ((w : Way) → IsBefore at (later (now past) (input_moment c past s w))) × Unhurried past at (call c past s)
before_parts c past s at h =
    let l = later (now past) (input_moment c past s LeftToRight) in
    let r = later (now past) (input_moment c past s RightToLeft) in
    let t = later (now past) (try_moment (call c past s)) in
    let a = before_both at (timer_moment c past s) (earlier (earlier l r) t) h in
    let b = before_both at (earlier l r) t a.1 in
    let d = before_both at l r b.0 in
    (a.0, ways d.0 d.1, b.1)
  where
    ways : IsBefore at (later (now past) (input_moment c past s LeftToRight)) → IsBefore at (later (now past) (input_moment c past s RightToLeft)) → (w : Way) → IsBefore at (later (now past) (input_moment c past s w))
    ways x y LeftToRight = x
    ways x y RightToLeft = y

-- of a running session both timers lie ahead
timers_ahead : (c : Config) (past : List Act) (s at : ℕ) → running c past s ≡ true → IsBefore at (timer_moment c past s) → IsBefore at (later (now past) (closing_moment c past s)) × IsBefore at (later (now past) (idle_moment c past s))
timers_ahead c past s at r h =
    before_both at (later (now past) (closing_moment c past s)) (later (now past) (idle_moment c past s))
    (subst (λ (b : Bool). IsBefore at (cond b (earlier (later (now past) (closing_moment c past s)) (later (now past) (idle_moment c past s))) None)) r h)

when_ready : (r a d : Bool) → (r ≡ true → d ≡ a) → (r && d) ≡ (r && a)
when_ready true a d f = f refl
when_ready false a d f = refl

all_true : (l r n : Bool) → l ≡ true → r ≡ true → n ≡ true → (l && r && n) ≡ true
all_true true true true e f g = refl
all_true true true false e f g = g
all_true true false n e f g = absurd (false≢true f)
all_true false r n e f g = absurd (false≢true e)

unended_kept : (c : Config) (past : List Act) (s at : ℕ) → live c past s ≡ true → cause c past s ≡ None → Ticks c past s at → cause c (tick at ∷ past) s ≡ cause c past s
unended_kept c past s at l e t =
    let ahead : ready c past s ≡ true → IsBefore at (later (now past) (closing_moment c past s)) × IsBefore at (later (now past) (idle_moment c past s)) = λ r. timers_ahead c past s at (all_true (live c past s) (ready c past s) (is_none (cause c past s)) l r (ap is_none e)) (before_parts c past s at t.before).0 in
    let x = when_ready (ready c past s) (reached (closing_moment c past s) (now past)) (reached (closing_moment c past s) at) (λ r. reached_kept (now past) at (closing_moment c past s) t.forward t.on_clock (ahead r).0) in
    let y = when_ready (ready c past s) (reached (idle_moment c past s) (now past)) (reached (idle_moment c past s) at) (λ r. reached_kept (now past) at (idle_moment c past s) t.forward t.on_clock (ahead r).1) in
    λ i. cause_from (closed_why c past s) (memory_said past) (stop_said past) (accept_failed_for c past s) (listening_failed c past s) (opening_failed c past s) (faulted c past s) (finished c past s) (x i) (y i)

running_kept : (c : Config) (past : List Act) (s at : ℕ) → cause c (tick at ∷ past) s ≡ cause c past s → running c (tick at ∷ past) s ≡ running c past s
running_kept c past s at e = λ i. live c past s && ready c past s && is_none (e i)

call_kept : (c : Config) (past : List Act) (s at : ℕ) → live c past s ≡ true → cause c past s ≡ None → Ticks c past s at → cause c (tick at ∷ past) s ≡ cause c past s → call c (tick at ∷ past) s ≡ call c past s
call_kept c past s at l e t k =
    let called : call c past s ≡ first_call c past (places c s) = λ i. cond (l i && is_none (e i)) (first_call c past (places c s)) Nothing in
    let h : Unhurried past at (first_call c past (places c s)) = subst (Unhurried past at) called (before_parts c past s at t.before).2 in
    let x = first_kept c past at (places c s) t.forward t.on_clock h in
    λ i. cond (live c past s && is_none (k i)) (x i) Nothing

timer_kept : (k at : ℕ) (x y : Option ℕ) (new old : Bool) → new ≡ old → k ≤ at → IsBefore at (cond old (earlier (later k x) (later k y)) None) → cond new (earlier (later at x) (later at y)) None ≡ cond old (earlier (later k x) (later k y)) None
timer_kept k at x y new false e f h = λ i. cond (e i) (earlier (later at x) (later at y)) None
timer_kept k at x y new true e f h =
    let b = before_both at (later k x) (later k y) h in
    let u = later_kept k at x f b.0 in
    let v = later_kept k at y f b.1 in
    λ i. cond (e i) (earlier (u i) (v i)) None

moves_kept : (c : Config) (past : List Act) (s at : ℕ) (w : Way) → running c (tick at ∷ past) s ≡ running c past s → is_going c (tick at ∷ past) s w ≡ is_going c past s w
moves_kept c past s at w r = λ i. goes c past s w && r i

input_kept : (c : Config) (past : List Act) (s at : ℕ) (w : Way) → running c (tick at ∷ past) s ≡ running c past s → now past ≤ at → IsBefore at (later (now past) (input_moment c past s w)) → later at (input_moment c (tick at ∷ past) s w) ≡ later (now past) (input_moment c past s w)
input_kept c past s at w r f h =
    let m = moves_kept c past s at w r in
    let e : input_moment c (tick at ∷ past) s w ≡ input_moment c past s w = λ i. cond (m i && not (over c past (input c s w))) (arming_moment (read_arming past (input c s w))) None in
    ap (later at) e ∙ later_kept (now past) at (input_moment c past s w) f h

moment_kept : (c : Config) (past : List Act) (s at : ℕ) → Ticks c past s at → running c (tick at ∷ past) s ≡ running c past s → call c (tick at ∷ past) s ≡ call c past s → session_moment c (tick at ∷ past) s ≡ session_moment c past s
moment_kept c past s at t r k =
    let b = before_parts c past s at t.before in
    let x = timer_kept (now past) at (closing_moment c past s) (idle_moment c past s) (running c (tick at ∷ past) s) (running c past s) r t.forward b.0 in
    let y = input_kept c past s at LeftToRight r t.forward (b.1 LeftToRight) in
    let z = input_kept c past s at RightToLeft r t.forward (b.1 RightToLeft) in
    let u = ap (λ (a : Call). later at (try_moment a)) k ∙ later_kept (now past) at (try_moment (call c past s)) t.forward b.2 in
    λ i. earlier (x i) (earlier (earlier (y i) (z i)) (u i))

reading_kept : (m x y o z : Bool) → ((m && not o) ≡ true → x ≡ y) → (m && x && not o && z) ≡ (m && y && not o && z)
reading_kept false x y o z f = refl
reading_kept true x y false z f = ap (λ b. b && true && z) (f refl)
reading_kept true true true true z f = refl
reading_kept true true false true z f = refl
reading_kept true false true true z f = refl
reading_kept true false false true z f = refl

read_kept : (c : Config) (past : List Act) (s at : ℕ) (w : Way) → Ticks c past s at → running c (tick at ∷ past) s ≡ running c past s → owes_read c (tick at ∷ past) s w ≡ owes_read c past s w
read_kept c past s at w t r =
    let m = moves_kept c past s at w r in
    let b = (before_parts c past s at t.before).1 w in
    (λ i. m i && is_armed (read_arming past (input c s w)) at && not (over c past (input c s w)) && backlog c past s w == 0)
    ∙ reading_kept (is_going c past s w) (is_armed (read_arming past (input c s w)) at) (armed_to_read past (input c s w)) (over c past (input c s w)) (backlog c past s w == 0)
    (λ e. arming_kept (now past) at (read_arming past (input c s w)) t.forward t.on_clock (subst (λ (x : Bool). IsBefore at (later (now past) (cond x (arming_moment (read_arming past (input c s w))) None))) e b))

write_kept : (c : Config) (past : List Act) (s at : ℕ) (w : Way) → running c (tick at ∷ past) s ≡ running c past s → owes_write c (tick at ∷ past) s w ≡ owes_write c past s w
write_kept c past s at w r = let m = moves_kept c past s at w r in λ i. m i && armed_to_write past (output c s w) && nat_lt 0 (backlog c past s w)

pass_kept : (c : Config) (past : List Act) (s at : ℕ) (w : Way) → running c (tick at ∷ past) s ≡ running c past s → must_pass c (tick at ∷ past) s w ≡ must_pass c past s w
pass_kept c past s at w r = let m = moves_kept c past s at w r in λ i. m i && is_spent c past s w && not (passed c past s w)

-- no direction has work
record Workless (c : Config) (past : List Act) (s : ℕ) : Type 0 where
  no_read : (w : Way) → owes_read c past s w ≡ false
  no_write : (w : Way) → owes_write c past s w ≡ false
  no_accept : accepts (call c past s) ≡ false

workless : (c : Config) (past : List Act) (s : ℕ) → session_work c past s ≡ false → Workless c past s
workless c past s e =
    let a = or_parts (way_work c past s LeftToRight || way_work c past s RightToLeft) (accepts (call c past s)) e in
    let b = or_parts (way_work c past s LeftToRight) (way_work c past s RightToLeft) a.0 in
    let l = or_parts (owes_read c past s LeftToRight) (owes_write c past s LeftToRight) b.0 in
    let r = or_parts (owes_read c past s RightToLeft) (owes_write c past s RightToLeft) b.1 in
    record { no_read = each (λ w. owes_read c past s w ≡ false) l.0 r.0; no_write = each (λ w. owes_write c past s w ≡ false) l.1 r.1; no_accept = a.1 }
  where
    each : (P : Way → Type 0) → P LeftToRight → P RightToLeft → (w : Way) → P w
    each P x y LeftToRight = x
    each P x y RightToLeft = y

untried : (c : Config) (past : List Act) (k : Call) → accepts k ≡ false → AcceptTried c past k
untried c past (Accept d p) e = absurd (true≢false e)
untried c past Nothing e = tt
untried c past (TryAt m) e = tt
untried c past (Open p) e = tt
untried c past (Settle p) e = tt
untried c past (Listen d) e = tt
untried c past (Refuse p) e = tt
untried c past (Serve d) e = tt

awake_on : (c : Config) (past : List Act) (s at : ℕ) (until : Option ℕ) → live c past s ≡ true → cause c past s ≡ None → RestsUntil c past s until → Ticks c past s at → SleepsOn c s until past (tick at ∷ past)
awake_on c past s at until l e h t =
    let k = unended_kept c past s at l e t in
    let r = running_kept c past s at k in
    let y = call_kept c past s at l e t k in
    let n = workless c past s h.no_work in
    let a = read_kept c past s at LeftToRight t r in
    let b = write_kept c past s at LeftToRight r in
    let d = read_kept c past s at RightToLeft t r in
    let f = write_kept c past s at RightToLeft r in
    record {
      rests_until = record {
        rests = record {
          ended = λ x. absurd (false≢true (sym (ap is_some (k ∙ e)) ∙ x));
          no_call = ap presses y ∙ h.rests.no_call;
          read_tried = λ w x. absurd (true≢false (sym x ∙ read_kept c past s at w t r ∙ n.no_read w));
          write_tried = λ w x. absurd (true≢false (sym x ∙ write_kept c past s at w r ∙ n.no_write w));
          passed_on = λ w. pass_kept c past s at w r ∙ h.rests.passed_on w;
          accept_tried = untried c (tick at ∷ past) (call c (tick at ∷ past) s) (ap accepts y ∙ n.no_accept);
        };
        no_work = (λ i. (a i || b i) || (d i || f i) || accepts (y i)) ∙ h.no_work;
        moment_is = moment_kept c past s at t r y ∙ h.moment_is;
      };
      running_same = r;
      call_same = y;
      unended = λ x z. k ∙ e;
    }

-- ---- one tick

still_on : (c : Config) (past : List Act) (s at : ℕ) (until : Option ℕ) → IsStill c past s → IsStill c (tick at ∷ past) s → holds c past s ≡ false → (live c past s ≡ true → cause c past s ≡ None → cause c (tick at ∷ past) s ≡ None) → RestsUntil c past s until → SleepsOn c s until past (tick at ∷ past)
still_on c past s at until q k empty u h = record {
  rests_until = record {
    rests = still_rests c (tick at ∷ past) s k empty;
    no_work = still_work c (tick at ∷ past) s k;
    moment_is = still_moment c (tick at ∷ past) s k ∙ sym (still_moment c past s q) ∙ h.moment_is;
  };
  running_same = k.stands ∙ sym q.stands;
  call_same = k.silent ∙ sym q.silent;
  unended = u;
}

ticked_on : (c : Config) (past : List Act) (s at : ℕ) (until : Option ℕ) → s < numbers c past → RestsUntil c past s until → now past ≤ at → at < 2 ^ 64 → IsBefore at until → SleepsOn c s until past (tick at ∷ past)
ticked_on c past s at until begun h f o b = go (live c past s) (cause c past s) refl refl
  where
    go : (l : Bool) (k : Option Why) → live c past s ≡ l → cause c past s ≡ k → SleepsOn c s until past (tick at ∷ past)
    go false k x y = still_on c past s at until (still_dead c past s x) (still_dead c (tick at ∷ past) s x) (dead_empty (has_fork c) s (admitted c past) (holds c past s) begun x) (λ u v. absurd (true≢false (sym u ∙ x))) h
    go true (Some w) x y = let e = ap is_some y in still_on c past s at until (still_ended c past s e) (still_ended c (tick at ∷ past) s (ended_stays c past s at f e)) (h.rests.ended e) (λ u v. let z : ⊥ = cc in absurd z) h
    go true None x y = awake_on c past s at until x y h (record { forward = f; on_clock = o; before = subst (IsBefore at) (sym h.moment_is) b })

-- ---- lists that say the same of the session

rests_alike : (c : Config) (s : ℕ) (one other : List Act) (until : Option ℕ) → Alike c s one other → SameSession c s one other → RestsUntil c other s until → RestsUntil c one s until
rests_alike c s one other until h a r =
    let e = a.session_work_same ∙ r.no_work in
    let n = workless c one s e in
    let k = a.cause_same in
    record {
      rests = record {
        ended = λ x. a.holds_same ∙ r.rests.ended (sym (ap is_some k) ∙ x);
        no_call = ap presses a.call_same ∙ r.rests.no_call;
        read_tried = λ w x. absurd (true≢false (sym x ∙ n.no_read w));
        write_tried = λ w x. absurd (true≢false (sym x ∙ n.no_write w));
        passed_on = λ w. passing w ∙ r.rests.passed_on w;
        accept_tried = untried c one (call c one s) n.no_accept;
      };
      no_work = e;
      moment_is = a.session_moment_same ∙ r.moment_is;
    }
  where
    passing : (w : Way) → must_pass c one s w ≡ must_pass c other s w
    passing w =
        let m = moves_same c s one other h.base a.running_same w in
        let v = over_same c s one other h.base (input c s w) refl (input_own c s w) in
        let b = backlog_same c s one other h.base w in
        let p = passing_same c s one other h.base w in
        λ i. m i && (v i && b i == 0) && not (is_some (p i))

on_from : (c : Config) (s : ℕ) (until : Option ℕ) (slept one other : List Act) → Alike c s one other → SameSession c s one other → SleepsOn c s until slept other → SleepsOn c s until slept one
on_from c s until slept one other h a r = record {
  rests_until = rests_alike c s one other until h a r.rests_until;
  running_same = a.running_same ∙ r.running_same;
  call_same = a.call_same ∙ r.call_same;
  unended = λ x y. a.cause_same ∙ r.unended x y;
}

on_since : (c : Config) (s : ℕ) (until : Option ℕ) (slept past : List Act) → s < numbers c past → s < numbers c slept → RestsUntil c slept s until → Summed c s until slept past → SleepsOn c s until slept past
on_since c s until slept past b d r (nothing h t) = on_from c s until slept past slept h (session_alike c s past slept b d h) (record { rests_until = r; running_same = refl; call_same = refl; unended = λ x y. y })
on_since c s until slept past b d r (ticked at h) = on_from c s until slept past (tick at ∷ slept) h.alike (session_alike c s past (tick at ∷ slept) b d h.alike) (ticked_on c slept s at until d r h.forward h.on_clock h.before)

pub sleeps_on : (c : Config) (s : ℕ) (until : Option ℕ) (slept past : List Act) → s < numbers c slept → RestsUntil c slept s until → Since c s until slept past → SleepsOn c s until slept past
sleeps_on c s until slept past b r h = on_since c s until slept past (still_begun c s until slept past h b) b r (summed c s until slept past h)

-- ---- a session that holds nothing any more

dead_of : (fork : Bool) (s n : ℕ) (x : Bool) → fork ≡ true → x ≡ false → cond fork (nat_lt s n && x) (s == 0) ≡ false
dead_of true s n x e h = and_right (nat_lt s n) x h
dead_of false s n x e h = absurd (false≢true e)

pub gone : (c : Config) (past : List Act) (s : ℕ) → has_fork c ≡ true → holds c past s ≡ false → RestsUntil c past s None
gone c past s fork empty =
    let q = still_dead c past s (dead_of (has_fork c) s (admitted c past) (holds c past s) fork empty) in
    record { rests = still_rests c past s q empty; no_work = still_work c past s q; moment_is = still_moment c past s q }
