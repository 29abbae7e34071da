-- Acts of others leave a session that has to act so: where it rests after one, it rested before it.
use Rattle.std.proofs.Common.{◌≡◌, refl, sym, ap, subst, ◌∙◌, ℕ, ◌<◌, false, not, ◌&&◌, ◌==◌, nat_lt, is_some, List, ◌∷◌}
use Rattle.relay_model.specs.declared.places.Way.{Way}
use Rattle.relay_model.specs.declared.commands.Config.{Config}
use Rattle.relay_model.specs.declared.acts.Act.{Act}
use Rattle.relay_model.specs.Configs.{input, output}
use Rattle.relay_model.specs.Arming.{is_armed}
use Rattle.relay_model.specs.Sessions.{numbers}
use Rattle.relay_model.specs.declared.calls.Call.{Call}
use Rattle.relay_model.specs.declared.calls.Call.TheVariants.{Accept}
use Rattle.relay_model.specs.Cause.{running}
use Rattle.relay_model.specs.Calls.{call}
use Rattle.relay_model.specs.Rest.{owes_read, owes_write, must_pass, presses, AcceptTried, SessionRests}
use Rattle.relay_model.specs.Frames.{SameSession, IsForeign, is_common}
use Rattle.relay_laws.proofs.OwnThings.{input_own, output_own}
use Rattle.relay_laws.proofs.Apart.{Base, moves_same, over_same, backlog_same, passing_same}
use Rattle.relay_laws.proofs.Alike.{Alike, alike_turned}
use Rattle.relay_laws.proofs.Slept.{begun_step, passes, session_alike}
use Rattle.session_laws.specs.Works.{MustAct}
use Rattle.session_laws.proofs.OwnCalls.{IsOwnCall, call_own}

reads_same : (c : Config) (s : ℕ) (one other : List Act) → Base c s one other → running c one s ≡ running c other s → (w : Way) → owes_read c one s w ≡ owes_read c other s w
reads_same c s one other base run w =
    let m = moves_same c s one other base run w in
    let r = (base.own (input c s w) refl (input_own c s w)).read_arming_same in
    let at = base.now_same in
    let v = over_same c s one other base (input c s w) refl (input_own c s w) in
    let b = backlog_same c s one other base w in
    λ i. m i && is_armed (r i) (at i) && not (v i) && b i == 0

writes_same : (c : Config) (s : ℕ) (one other : List Act) → Base c s one other → running c one s ≡ running c other s → (w : Way) → owes_write c one s w ≡ owes_write c other s w
writes_same c s one other base run w =
    let m = moves_same c s one other base run w in
    let r = (base.own (output c s w) refl (output_own c s w)).armed_to_write_same in
    let b = backlog_same c s one other base w in
    λ i. m i && r i && nat_lt 0 (b i)

passes_same : (c : Config) (s : ℕ) (one other : List Act) → Base c s one other → running c one s ≡ running c other s → (w : Way) → must_pass c one s w ≡ must_pass c other s w
passes_same c s one other base run w =
    let m = moves_same c s one other base run w in
    let v = over_same c s one other base (input c s w) refl (input_own c s w) in
    let b = backlog_same c s one other base w in
    let p = passing_same c s one other base w in
    λ i. m i && (v i && b i == 0) && not (is_some (p i))

accept_alike : (c : Config) (s : ℕ) (one other : List Act) → Alike c s one other → (k : Call) → IsOwnCall c s k → AcceptTried c other k → AcceptTried c one k
accept_alike c s one other h (Accept d p) own tried = h.accepted d own.0 own.1 ∙ tried
accept_alike c s one other h k own tried = tried

-- lists of acts that say the same of a session say alike whether it rests
rests_alike : (c : Config) (s : ℕ) (one other : List Act) → Alike c s one other → SameSession c s one other → SessionRests c other s → SessionRests c one s
rests_alike c s one other h a r = record {
  ended = λ x. a.holds_same ∙ r.ended (sym (ap is_some a.cause_same) ∙ x);
  no_call = ap presses a.call_same ∙ r.no_call;
  read_tried = λ w x. (h.base.own (input c s w) refl (input_own c s w)).asked_to_read_same ∙ r.read_tried w (sym (reads_same c s one other h.base a.running_same w) ∙ x);
  write_tried = λ w x. h.written w ∙ r.write_tried w (sym (writes_same c s one other h.base a.running_same w) ∙ x);
  passed_on = λ w. passes_same c s one other h.base a.running_same w ∙ r.passed_on w;
  accept_tried = subst (AcceptTried c one) (sym a.call_same) (accept_alike c s one other h (call c other s) (call_own c other s) r.accept_tried);
}

rested_before : (c : Config) (act : Act) (past : List Act) (s : ℕ) → s < numbers c past → IsForeign c s act → is_common c act ≡ false → SessionRests c (act ∷ past) s → SessionRests c past s
rested_before c act past s begun f k =
    let back = alike_turned c s (act ∷ past) past (passes c s act past f k) in
    rests_alike c s past (act ∷ past) back (session_alike c s past (act ∷ past) begun (begun_step c act past s begun) back)

pub stays : (c : Config) (act : Act) (past : List Act) (s : ℕ) → s < numbers c past → IsForeign c s act → is_common c act ≡ false → MustAct c past s → MustAct c (act ∷ past) s
stays c act past s begun f k must rests = must (rested_before c act past s begun f k rests)
