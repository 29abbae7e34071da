-- When a session rests, and until when.
use Rattle.std.proofs.Common.{◌≡◌, refl, sym, ap, ◌∙◌, ℕ, Bool, true, false, not, cond, ◌&&◌, ◌||◌, ◌==◌, nat_lt, List, Option, Some, None, is_some, is_none}
use Rattle.std.proofs.lemmas.Bool.{false≢true}
use Rattle.relay_model.specs.declared.places.Way.{Way}
use Rattle.relay_model.specs.declared.places.Way.TheVariants.{LeftToRight, RightToLeft}
use Rattle.relay_model.specs.declared.commands.Config.{Config}
use Rattle.relay_model.specs.declared.acts.Act.{Act}
use Rattle.relay_model.specs.Choices.{earlier, later}
use Rattle.relay_model.specs.Configs.{input, output}
use Rattle.relay_model.specs.History.{now}
use Rattle.relay_model.specs.Arming.{armed_to_read, armed_to_write, asked_to_read, asked_to_write}
use Rattle.relay_model.specs.Sessions.{live, holds}
use Rattle.relay_model.specs.Transfers.{over, backlog, is_spent}
use Rattle.relay_model.specs.Moments.{passed}
use Rattle.relay_model.specs.Openings.{ready}
use Rattle.relay_model.specs.declared.calls.Call.TheVariants.{Nothing}
use Rattle.relay_model.specs.Cause.{cause, running}
use Rattle.relay_model.specs.Calls.{call}
use Rattle.relay_model.specs.Rest.{goes, is_going, owes_read, owes_write, must_pass, accepts, presses, AcceptTried, SessionRests, way_work, try_moment, input_moment, timer_moment}
use Rattle.relay_session.specs.Timers.{session_until}
use Rattle.relay_session.proofs.TimerLemmas.{earlier_none}

all_three : {T : Type 0} (a b : Bool) (o : Option T) → a ≡ true → b ≡ true → o ≡ None → (a && b && is_none o) ≡ true
all_three a b o l r e = rw (l, r, e) refl

pub running_of : (c : Config) (past : List Act) (s : ℕ) → live c past s ≡ true → ready c past s ≡ true → cause c past s ≡ None → running c past s ≡ true
running_of c past s l r e = all_three (live c past s) (ready c past s) (cause c past s) l r e

unready : (a b d : Bool) → b ≡ false → (a && b && d) ≡ false
unready true b d e = rw e refl
unready false b d e = refl

pub not_running : (c : Config) (past : List Act) (s : ℕ) → ready c past s ≡ false → running c past s ≡ false
not_running c past s e = unready (live c past s) (ready c past s) (is_none (cause c past s)) e

none_is_some : (c : Config) (past : List Act) (s : ℕ) → cause c past s ≡ None → is_some (cause c past s) ≡ true → holds c past s ≡ false
none_is_some c past s e h = absurd (false≢true (ap is_some (sym e) ∙ h))

first_part : (a b d e : Bool) → (a && b && d && e) ≡ true → a ≡ true
first_part true b d e h = refl
first_part false b d e h = absurd (false≢true h)

still : (m : Bool) (b d : Bool) → m ≡ false → (m && b && d) ≡ false
still true b d e = absurd (false≢true (sym e))
still false b d e = refl

moves_not : (c : Config) (past : List Act) (s : ℕ) (w : Way) → running c past s ≡ false → is_going c past s w ≡ false
moves_not c past s w e = go (goes c past s w) (running c past s) e
  where
    go : (a b : Bool) → b ≡ false → (a && b) ≡ false
    go true b f = f
    go false b f = refl

-- a session that isn't ready rests where nothing presses and a peer that is called for was asked for
pub rests_unready : (c : Config) (past : List Act) (s : ℕ) → cause c past s ≡ None → ready c past s ≡ false → presses (call c past s) ≡ false → AcceptTried c past (call c past s) → SessionRests c past s
rests_unready c past s e r p a =
    record {
      ended = none_is_some c past s e;
      no_call = p;
      read_tried = λ w h. absurd (false≢true (sym (moves_not c past s w (not_running c past s r)) ∙ first_part (is_going c past s w) (armed_to_read past (input c s w)) (not (over c past (input c s w))) (backlog c past s w == 0) h));
      write_tried = λ w h. absurd (false≢true (sym (still (is_going c past s w) _ _ (moves_not c past s w (not_running c past s r))) ∙ h));
      passed_on = λ w. still (is_going c past s w) (is_spent c past s w) (not (passed c past s w)) (moves_not c past s w (not_running c past s r));
      accept_tried = a;
    }

-- a running session rests where its directions do
pub rests_running : (c : Config) (past : List Act) (s : ℕ) → cause c past s ≡ None → call c past s ≡ Nothing →
    ((w : Way) → owes_read c past s w ≡ true → asked_to_read past (input c s w) ≡ true) →
    ((w : Way) → owes_write c past s w ≡ true → asked_to_write past (input c s w) (output c s w) ≡ true) →
    ((w : Way) → must_pass c past s w ≡ false) → SessionRests c past s
rests_running c past s e k r w p =
    record {
      ended = none_is_some c past s e;
      no_call = ap presses k;
      read_tried = r;
      write_tried = w;
      passed_on = p;
      accept_tried = rw k tt;
    }

-- ---- until when

no_work : (c : Config) (past : List Act) (s : ℕ) (w : Way) → running c past s ≡ false → way_work c past s w ≡ false
no_work c past s w e = let m = moves_not c past s w e in go (is_going c past s w) (armed_to_read past (input c s w)) (not (over c past (input c s w))) (backlog c past s w == 0) (armed_to_write past (output c s w)) (nat_lt 0 (backlog c past s w)) m
  where
    go : (m a o b d f : Bool) → m ≡ false → (m && a && o && b || m && d && f) ≡ false
    go true a o b d f h = absurd (false≢true (sym h))
    go false a o b d f h = refl

no_input : (c : Config) (past : List Act) (s : ℕ) (w : Way) → running c past s ≡ false → input_moment c past s w ≡ None
no_input c past s w e = rw (moves_not c past s w e) refl

-- where it isn't ready, a session waits for a peer that may come at once, or for its next try
pub until_unready : (c : Config) (past : List Act) (s : ℕ) → ready c past s ≡ false → session_until c past s ≡ cond (accepts (call c past s)) (Some (now past)) (later (now past) (try_moment (call c past s)))
until_unready c past s r =
    let e = not_running c past s r in
    rw (no_work c past s LeftToRight e, no_work c past s RightToLeft e, no_input c past s LeftToRight e, no_input c past s RightToLeft e, e) refl

joined : (a b : Bool) (at : Option ℕ) (t i : Option ℕ) → cond (a || b || false) at (earlier t (earlier i None)) ≡ cond (a || b) at (earlier t i)
joined true b at t i = refl
joined false true at t i = refl
joined false false at t i = ap (earlier t) (earlier_none i)

-- where nothing is called for, it waits for its timers and inputs
pub until_running : (c : Config) (past : List Act) (s : ℕ) → call c past s ≡ Nothing → session_until c past s ≡ cond (way_work c past s LeftToRight || way_work c past s RightToLeft) (Some (now past)) (earlier (timer_moment c past s) (earlier (later (now past) (input_moment c past s LeftToRight)) (later (now past) (input_moment c past s RightToLeft))))
until_running c past s k =
    rw k (joined (way_work c past s LeftToRight) (way_work c past s RightToLeft) (Some (now past)) (timer_moment c past s) (earlier (later (now past) (input_moment c past s LeftToRight)) (later (now past) (input_moment c past s RightToLeft))))
