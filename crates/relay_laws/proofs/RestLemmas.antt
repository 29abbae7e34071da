-- A session that is over rests, and the whole rests where its parts do.
use Rattle.std.proofs.Common.{◌≡◌, refl, sym, ap, subst, ◌∙◌, ℕ, suc, ◌<◌, ◌≤◌, Bool, true, false, not, cond, ◌&&◌, ◌==◌, nat_lt, is_none, List, None, inl, inr, ◌⊎◌}
use Rattle.std.proofs.lemmas.Bool.{false≢true, and_right, cases_lt}
use Rattle.relay_model.specs.declared.places.Way.{Way}
use Rattle.relay_model.specs.declared.commands.Config.{Config}
use Rattle.relay_model.specs.declared.acts.Act.{Act}
use Rattle.relay_model.specs.Configs.{input, output, places}
use Rattle.relay_model.specs.Arming.{armed_to_read, armed_to_write}
use Rattle.relay_model.specs.Sessions.{holds, live, numbers}
use Rattle.relay_model.specs.Transfers.{over, backlog, is_spent}
use Rattle.relay_model.specs.Moments.{passed}
use Rattle.relay_model.specs.Openings.{ready, first_call}
use Rattle.relay_model.specs.declared.calls.Call.TheVariants.{Nothing}
use Rattle.relay_model.specs.Cause.{cause, running}
use Rattle.relay_model.specs.Calls.{call}
use Rattle.relay_model.specs.Outcome.{outcome}
use Rattle.relay_model.specs.Rest.{owed, goes, is_going, presses, AcceptTried, SessionRests, DoorRests, Rest}
use Rattle.relay_model.specs.May.{Legal}
use Rattle.relay_laws.proofs.Begun.{unbegun_holds, unbegun_live}

refuted : {P : Type 0} → false ≡ true → P
refuted e = absurd (false≢true e)

-- a session that isn't live and holds nothing rests
not_running : (l r n : Bool) → l ≡ false → (l && r && n) ≡ false
not_running true r n e = absurd (false≢true (sym e))
not_running false r n e = refl

stuck3 : (m a b d : Bool) → m ≡ false → (m && a && b && d) ≡ false
stuck3 true a b d e = absurd (false≢true (sym e))
stuck3 false a b d e = refl

pub silent : (c : Config) (past : List Act) (s : ℕ) → live c past s ≡ false → holds c past s ≡ false → SessionRests c past s
silent c past s dead empty = record {
  ended = λ _. empty;
  no_call = subst (λ k. presses k ≡ false) (sym no_call_there) refl;
  read_tried = λ w h. refuted (sym (stuck3 (is_going c past s w) (armed_to_read past (input c s w)) (not (over c past (input c s w))) (backlog c past s w == 0) (still w)) ∙ h);
  write_tried = λ w h. refuted (sym (not_running (is_going c past s w) (armed_to_write past (output c s w)) (nat_lt 0 (backlog c past s w)) (still w)) ∙ h);
  passed_on = λ w. not_running (is_going c past s w) (is_spent c past s w) (not (passed c past s w)) (still w);
  accept_tried = subst (AcceptTried c past) (sym no_call_there) tt;
}
  where
    no_call_there : call c past s ≡ Nothing
    no_call_there = ap (λ l. cond (l && is_none (cause c past s)) (first_call c past (places c s)) Nothing) dead

    still : (w : Way) → is_going c past s w ≡ false
    still w = and_right (goes c past s w) (running c past s) (not_running (live c past s) (ready c past s) (is_none (cause c past s)) dead)

pub rest_of_parts :
    (c : Config) (n : ℕ) (past : List Act) → Legal c n past → outcome c past ≡ None → owed c past ≡ None →
    ((s : ℕ) → s < suc (numbers c past) → SessionRests c past s) → DoorRests c past → Rest c past
rest_of_parts c n past legal o d sessions door = record { no_outcome = o; no_dump = d; sessions = λ s. one s (cases_lt s (suc (numbers c past))); door = door }
  where
    one : (s : ℕ) → (s < suc (numbers c past)) ⊎ (suc (numbers c past) ≤ s) → SessionRests c past s
    one s (inl near) = sessions s near
    one s (inr far) = silent c past s (unbegun_live c past s far) (unbegun_holds c n past s legal far)
