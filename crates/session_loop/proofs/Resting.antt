-- When a session of a command without `fork` sleeps, where no dump is owed.
use Rattle.std.proofs.Common.{◌≡◌, ◌⊎◌, inl, inr, sym, ap, subst, ◌∙◌, ℕ, suc, ◌<◌, Bool, true, false, ◌&&◌, List, Option, None, arith}
use Rattle.std.proofs.lemmas.Bool.{cases_eq, false≢true}
use Rattle.relay_model.specs.declared.commands.Config.{Config}
use Rattle.relay_model.specs.declared.acts.Act.{Act}
use Rattle.relay_model.specs.Configs.{has_fork}
use Rattle.relay_model.specs.Sessions.{numbers}
use Rattle.relay_model.specs.Cause.{cause}
use Rattle.relay_model.specs.Rest.{AcceptTried, DoorRests, Rest, SessionRests, owed, presses, until_of}
use Rattle.relay_model.specs.May.{Legal}
use Rattle.relay_laws.proofs.RestLemmas.{rest_of_parts}
use Rattle.relay_laws.proofs.RestLemmas.{silent as idles}
use Rattle.relay_session.specs.declared.states.State.{State}
use Rattle.relay_session.specs.declared.wishes.Wish.{Wish}
use Rattle.relay_session.specs.declared.wishes.Wish.TheVariants as wishes
use Rattle.relay_session.specs.Endings.{EndingIs}
use Rattle.relay_session.specs.States.{Fields, Allowed}
use Rattle.relay_session.proofs.Held.{numbers_alone, lives_not, next_holds}
use Rattle.relay_session.proofs.Waiting.{door_silent, no_outcome, until_alone}

never : (f d : Bool) → f ≡ false → (f && d) ≡ true → ⊥
never true d a e = false≢true (sym a)
never false d a e = false≢true e

-- without `fork` there is no program door that could be busy
door_rests : (c : Config) (past : List Act) → has_fork c ≡ false → DoorRests c past
door_rests c past alone =
    record {
      ended = λ e. absurd (never (has_fork c) _ alone e);
      no_call = ap presses (door_silent c past alone);
      accept_tried = subst (AcceptTried c past) (sym (door_silent c past alone)) tt;
    }

-- the whole rests where its session does
rest_of : (c : Config) (n : ℕ) (past : List Act) → has_fork c ≡ false → owed c past ≡ None → Legal c n past → cause c past 0 ≡ None → SessionRests c past 0 → Rest c past
rest_of c n past alone unowed legal e r =
    rest_of_parts c n past legal (no_outcome c past alone e) unowed each (door_rests c past alone)
  where
    each : (s : ℕ) → s < suc (numbers c past) → SessionRests c past s
    each s h = go (cases_eq s 0)
      where
        go : (s ≡ 0) ⊎ (s ≡ 0 → ⊥) → SessionRests c past s
        go (inl z) = subst (SessionRests c past) (sym z) r
        go (inr other) =
            let k = numbers_alone c past alone in
            let one : s ≡ 1 = omega (arith, h, k, other) in
            subst (SessionRests c past) (sym one) (idles c past 1 (lives_not c past alone) (next_holds c n past alone legal))

-- a session that sleeps does so at rest, and until the moment of the whole
pub rests_asleep : (c : Config) (n : ℕ) (past : List Act) (st : State) (wish : Wish) (until : Option ℕ) → has_fork c ≡ false → Fields c n past 0 st → Allowed c n past 0 st wish → Legal c n past → owed c past ≡ None → wish ≡ wishes.Sleep until → Rest c past × (until ≡ until_of c past)
rests_asleep c n past st wish until alone f allowed legal unowed e =
    let a = subst (Allowed c n past 0 st) e allowed in
    let quiet = (subst (EndingIs c n past 0) a.1 f.ending_is).1 in (
      rest_of c n past alone unowed legal quiet a.0.rests,
      a.0.until_is ∙ sym (until_alone c past alone),
    )
